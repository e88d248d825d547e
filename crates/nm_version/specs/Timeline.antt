-- What the base and the steps say of the statements of one subject.
use Rattle.std.specs.Prelude.{List, [], ◌∷◌, ◌++◌, Bool, if◌then◌else◌}
use Rattle.std.specs.List.{filter, flat_map}
use Rattle.nm_check.specs.Subject.{is_about}
use Rattle.nm_check.specs.Timelines.{names_of}
use Rattle.nm_ident.specs.declared.ident.Ident.{Ident}
use Rattle.nm_model.specs.declared.document.Full.{Full}
use Rattle.nm_stage.specs.Project.{PlainProject, model_of}
use Rattle.nm_stage.specs.Steps.{in_order}
use Rattle.nm_statement.specs.Set.{has, set_of}
use Rattle.nm_statement.specs.declared.statement.Statement.{Statement}
use Rattle.nm_timeline.specs.declared.part.Part.{Part}
use Rattle.nm_timeline.specs.declared.part.Part.TheVariants.{Precondition, Reverse, Forward}
use Rattle.nm_version.specs.declared.line.Line.{Line}
use Rattle.nm_version.specs.declared.line.Line.TheVariants.{Base, Named}

-- those that the base or a step names, in order
abbrev pub named_by : List Statement → List PlainProject → List Statement
named_by base steps = set_of (base ++ flat_map (λ step. names_of step.change) steps)

abbrev pub line_if : Bool → Line → List Line
line_if test line = if test then line ∷ [] else []

-- a line, where the set has the statement
abbrev pub line_where : List Statement → Statement → Line → List Line
line_where set statement line = line_if (has set statement) line

-- a step names the statement in a part of its change
abbrev pub named_in : PlainProject → Part → Statement → Line
named_in step part statement = Named step.day (model_of step) part statement

-- how a step names the statement: a line for each part
abbrev pub step_lines : Statement → PlainProject → List Line
step_lines statement step =
    line_where step.change.pre statement (named_in step Precondition statement)
    ++ line_where step.change.rev statement (named_in step Reverse statement)
    ++ line_where step.change.fwd statement (named_in step Forward statement)

-- the lines of the statement: that of the base, and those of the steps
abbrev pub statement_lines : List Statement → List PlainProject → Statement → List Line
statement_lines base steps statement = line_where base statement (Base statement) ++ flat_map (step_lines statement) steps

-- the lines of each statement of the subject
abbrev pub lines_from : List Statement → List PlainProject → Ident → List Line
lines_from base steps subject = flat_map (statement_lines base steps) (filter (is_about subject) (named_by base steps))

-- the lines of the statements of the subject, in the order of statements and then of steps
abbrev pub timeline_of : Full → List PlainProject → Ident → List Line
timeline_of base live subject = lines_from base.statements (in_order live) subject

abbrev pub statement_of : Line → Statement
statement_of (Base statement) = statement
statement_of (Named day model part statement) = statement
