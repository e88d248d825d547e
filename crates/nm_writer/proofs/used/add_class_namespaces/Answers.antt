use Rattle.std.proofs.Common.{length, ap, subst, arith, sym, fold}
use Rattle.std.proofs.lemmas.Bool.{eqb-false}
use Rattle.nm_statement.specs.Set.{IsRising}
use Rattle.nm_writer.specs.Canonical.{class_namespaces, group_length}
use Rattle.nm_writer.specs.Namespaces.{with_namespace}
use Rattle.nm_writer.proofs.Elements.{namespaces_step}
use Rattle.nm_writer.proofs.Groups.{drop_rises, drop_group-shorter}
use Rattle.nm_writer.proofs.used.add_class_namespaces.Goals as goal

pub loop-rest-smaller : goal.loop-rest-smaller
loop-rest-smaller c =
    let rest = c.loop-rest.rest.now in
    omega (arith, ap length c.split_group.ensures.behind, drop_group-shorter rest (omega (arith, eqb-false (length rest) 0 (sym c.loop-rest-test.ensures))))

pub loop-rest-preserved : goal.loop-rest-preserved
loop-rest-preserved c =
    let rest = c.loop-rest.rest.now in
    record {
      rising = subst IsRising (sym c.split_group.ensures.behind) (drop_rises (group_length rest) rest c.loop-rest.invariant.rising);
      added =
          namespaces_step rest c.split_group.result.0.now c.split_group.result.1.now c.loop-rest.namespaces c.add_class_namespace.new.namespaces
          (fold with_namespace c.args.namespaces.now (class_namespaces c.args.statements.now)) c.split_group.ensures.group c.split_group.ensures.behind c.loop-rest.invariant.rising c.in_ok-add_class_namespace.ensures
          c.loop-rest.invariant.added;
    }
