-- Worked examples of reports, computed.
use Rattle.std.proofs.Common.{◌≡◌, ℕ, List, [], ◌∷◌, ◌++◌, codes, None, Some, Err, refl, inl}
use Rattle.std.specs.Fmt.{digits}
use Rattle.uuid.proofs.OnLiterals.{uuid_on_literals}
use Rattle.nm_base.specs.declared.outcome.Status.TheVariants.{Refused}
use Rattle.nm_ident.specs.UuidText.{uuid_text}
use Rattle.nm_ident.specs.declared.ident.Ident.TheVariants.{Local}
use Rattle.nm_model.specs.declared.document.Document.TheVariants as document
use Rattle.nm_model.specs.declared.header.Header.{Header}
use Rattle.nm_piece.specs.Piece.{inner_piece_at, piece_at}
use Rattle.nm_piece.specs.Run.{run_of}
use Rattle.nm_reader.specs.Input.{cut_within}
use Rattle.nm_reader.specs.Read.{read_due}
use Rattle.nm_reader.specs.Rules.{code_at}
use Rattle.nm_reader.specs.declared.error.ReadError.TheVariants as read_error
use Rattle.nm_reader.specs.declared.fault.Code.TheVariants as code
use Rattle.nm_statement.specs.declared.object.Object.TheVariants.{Literal}
use Rattle.nm_statement.specs.declared.statement.Statement.{Statement}
use Rattle.nm_cli.specs.CommandLine.{form_of}
use Rattle.nm_cli.specs.Forms.{due_by}
use Rattle.nm_cli.specs.Report.{counts_line, reported}
use Rattle.nm_cli.specs.Reported.{IsReadThrough}
use Rattle.nm_cli.specs.declared.form.Form.TheVariants.{Session, Check}
use Rattle.nm_cli.specs.declared.report.Report.TheVariants.{Canonical}

abbrev header : Header
header = record {
  id = 0x10000000000040008000000000000001;
  created = None;
  scenario_time = None;
  version = None;
  description = None;
  authority = None;
  profiles = [];
  depends = [];
  supersedes = [];
}

abbrev named : List ℕ → Statement
named name = record {
  subject = Local (codes "a");
  predicate = record { ns = codes "http://iec.ch/#"; local = codes "name" };
  object = Literal name;
}

full_model : counts_line (document.Full (record { header = header; statements = named (codes "x") ∷ named (codes "y") ∷ [] }))
    ≡ codes "full 10000000-0000-4000-8000-000000000001 2" ++ 10 ∷ []
unfolding uuid_text uuid_on_literals digits
full_model = refl

-- preconditions, then what is taken away, then what is added
difference_model : counts_line (document.Difference (record { header = header; change = record { pre = []; rev = named (codes "x") ∷ []; fwd = named (codes "y") ∷ named (codes "z") ∷ [] } }))
    ≡ codes "difference 10000000-0000-4000-8000-000000000001 0 1 2" ++ 10 ∷ []
unfolding uuid_text uuid_on_literals digits
difference_model = refl

faulty : reported Canonical (Err (read_error.Fault (record { at = 404; code = code.Nesting })))
    ≡ record { replies = codes "fault 404 nesting" ++ 10 ∷ []; ending = Refused }
unfolding digits
faulty = refl

-- no bytes are a document that ends before it begins
nothing : due_by Check [] ≡ record { replies = codes "fault 0 cut" ++ 10 ∷ []; ending = Refused }
unfolding digits read_due cut_within code_at piece_at inner_piece_at run_of
nothing = refl

-- two bytes were all that was left
read_to_the_end : IsReadThrough (Some (60 ∷ 97 ∷ [])) (Some [])
read_to_the_end = record { taken = 60 ∷ 97 ∷ []; consumed = refl; through = inl refl }

-- a form is one word
one_word : form_of (codes "session" ∷ []) ≡ Some Session
one_word = refl

another_word : form_of (codes "check" ∷ []) ≡ Some Check
another_word = refl

two_words : form_of (codes "session" ∷ [] ∷ []) ≡ None
two_words = refl
