use Rattle.nm_cli.proofs.Reports.{is_complete, part_report, whole_report}
use Rattle.nm_cli.proofs.report.report_on.Goals as goal

pub returns-in-Ok-write_report-clause-answers : goal.returns-in-Ok-write_report-clause-answers
returns-in-Ok-write_report-clause-answers g c =
    whole_report _ _ c.in-Ok.bytes.items c.deref.result.now c.args.report _ _ _ c.deref.ensures.value
    c.in-Ok.ensures.taken c.in-Ok.ensures.through c.in-Ok-write_report.ensures.whole

pub returns-in-Ok-write_report-clause-complete : goal.returns-in-Ok-write_report-clause-complete
returns-in-Ok-write_report-clause-complete g c =
    is_complete _ c.args.report c.deref.result.now _ _ _ _ _ _ _ (c.in-Ok.ensures.counted.stays, c.in-Ok-write_report.ensures.counted.stays) c.in-Ok-write_report.ensures.whole
    (whole_report _ _ c.in-Ok.bytes.items c.deref.result.now c.args.report _ _ _ c.deref.ensures.value
    c.in-Ok.ensures.taken c.in-Ok.ensures.through c.in-Ok-write_report.ensures.whole)

pub returns-in-Ok-clause-answers : goal.returns-in-Ok-clause-answers
returns-in-Ok-clause-answers g c =
    part_report _ _ c.in-Ok.bytes.items c.deref.result.now c.args.report c.in-Err-write_report.failure c.status.result _ _ _ _ c.deref.ensures.value c.status.ensures
    c.in-Ok.ensures.taken c.in-Ok.ensures.through c.in-Err-write_report.ensures.front c.in-Err-write_report.ensures.counted.fails
