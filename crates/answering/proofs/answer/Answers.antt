use Rattle.rules.specs.Model.{ask_before, ask_compare, ask_picture}
use Rattle.rules.specs.Replies.{stamped_value, received_value, sent_value}
use Rattle.office.specs.Office.{folder}
use Rattle.commands.specs.Lines.{wanted_in, numbers_in}
use Rattle.answering.proofs.Answered.{printable, asked, obeyed, printed}
use mathlib.Core.Path.{refl, sym, ap, ◌∙◌}
use Rattle.answering.proofs.answer.Goals as goal

-- `c.parse.ensures` says what the line asks for

pub put_answer-requires-in-Local-clause-printable : goal.put_answer-requires-in-Local-clause-printable
put_answer-requires-in-Local-clause-printable c =
    let f = folder c.args.book.now c.args.summary.now in
    printable f _ _ c.desks_in-desks.ensures stamped_value c.local.result c.local.ensures.result_value

pub put_answer-requires-in-Send-clause-printable : goal.put_answer-requires-in-Send-clause-printable
put_answer-requires-in-Send-clause-printable c =
    let f = folder c.args.book.now c.args.summary.now in
    printable f _ _ c.desks_in-desks.ensures sent_value c.send.result c.send.ensures.result_value

pub put_answer-requires-in-Receive-clause-printable : goal.put_answer-requires-in-Receive-clause-printable
put_answer-requires-in-Receive-clause-printable c =
    let f = folder c.args.book.now c.args.summary.now in
    printable f _ _ c.desks_in-desks.ensures received_value c.receive.result c.receive.ensures.result_value

pub put_answer-requires-in-Reset-clause-printable : goal.put_answer-requires-in-Reset-clause-printable
put_answer-requires-in-Reset-clause-printable c =
    let f = folder c.args.book.now c.args.summary.now in
    printable f _ _ c.desks_in-desks.ensures stamped_value c.reset.result c.reset.ensures.result_value

pub returns-in_default : goal.returns-in_default
returns-in_default c =
    let f = folder c.args.book.now c.args.summary.now in
    let p = obeyed f _ _ _ _ (ap wanted_in (sym c.in_default.is) ∙ c.parse.ensures) _ _ _ _
    refl refl _ c.desks_in-desks.ensures c.put_answer.ensures in
    record { wrote = p.0; summary_after = p.1 }

pub returns-in-Start : goal.returns-in-Start
returns-in-Start c =
    let f = folder c.args.book.now c.args.summary.now in
    let p = printed f _ _ _ _ c.parse.ensures _ c.in-Some.is _ c.in-Start.is _ _ _ _
    c.begin.ensures.result_value c.begin.ensures.summary_after
    _ c.desks_in-desks.ensures c.put_answer-in-Start.ensures in
    record { wrote = p.0; summary_after = p.1 }

pub returns-in-Local : goal.returns-in-Local
returns-in-Local c =
    let f = folder c.args.book.now c.args.summary.now in
    let p = printed f _ _ _ _ c.parse.ensures _ c.in-Some.is _ c.in-Local.is _ _ _ _
    c.local.ensures.result_value c.local.ensures.summary_after
    _ c.desks_in-desks.ensures c.put_answer-in-Local.ensures in
    record { wrote = p.0; summary_after = p.1 }

pub returns-in-Send : goal.returns-in-Send
returns-in-Send c =
    let f = folder c.args.book.now c.args.summary.now in
    let p = printed f _ _ _ _ c.parse.ensures _ c.in-Some.is _ c.in-Send.is _ _ _ _
    c.send.ensures.result_value c.send.ensures.summary_after
    _ c.desks_in-desks.ensures c.put_answer-in-Send.ensures in
    record { wrote = p.0; summary_after = p.1 }

pub returns-in-Receive : goal.returns-in-Receive
returns-in-Receive c =
    let f = folder c.args.book.now c.args.summary.now in
    let p = printed f _ _ _ _ c.parse.ensures _ c.in-Some.is _ c.in-Receive.is _ _ _ _
    c.receive.ensures.result_value c.receive.ensures.summary_after
    _ c.desks_in-desks.ensures c.put_answer-in-Receive.ensures in
    record { wrote = p.0; summary_after = p.1 }

pub returns-in-Reset : goal.returns-in-Reset
returns-in-Reset c =
    let f = folder c.args.book.now c.args.summary.now in
    let p = printed f _ _ _ _ c.parse.ensures _ c.in-Some.is _ c.in-Reset.is _ _ _ _
    c.reset.ensures.result_value c.reset.ensures.summary_after
    _ c.desks_in-desks.ensures c.put_answer-in-Reset.ensures in
    record { wrote = p.0; summary_after = p.1 }

pub returns-in-Drop : goal.returns-in-Drop
returns-in-Drop c =
    let f = folder c.args.book.now c.args.summary.now in
    let p = printed f _ _ _ _ c.parse.ensures _ c.in-Some.is _ c.in-Drop.is _ _ _ _
    c.drop.ensures.result_value c.drop.ensures.summary_after
    _ c.desks_in-desks.ensures c.put_answer-in-Drop.ensures in
    record { wrote = p.0; summary_after = p.1 }

pub returns-in-Discard : goal.returns-in-Discard
returns-in-Discard c =
    let f = folder c.args.book.now c.args.summary.now in
    let p = printed f _ _ _ _ c.parse.ensures _ c.in-Some.is _ c.in-Discard.is _ _ _ _
    c.discard.ensures.result_value c.discard.ensures.summary_after
    _ c.desks_in-desks.ensures c.put_answer-in-Discard.ensures in
    record { wrote = p.0; summary_after = p.1 }

pub returns-in-Before : goal.returns-in-Before
returns-in-Before c =
    let f = folder c.args.book.now c.args.summary.now in
    let q = asked f (ask_before c.in-Before.s c.in-Before.t) in
    let p = printed f _ _ _ _ c.parse.ensures _ c.in-Some.is _ c.in-Before.is _ _ _ _
    (c.before-in-Before.ensures ∙ q.0) q.1 _ c.desks_in-desks.ensures c.put_answer-in-Before.ensures in
    record { wrote = p.0; summary_after = p.1 }

pub returns-in-Compare : goal.returns-in-Compare
returns-in-Compare c =
    let f = folder c.args.book.now c.args.summary.now in
    let q = asked f (ask_compare c.in-Compare.s c.in-Compare.t) in
    let p = printed f _ _ _ _ c.parse.ensures _ c.in-Some.is _ c.in-Compare.is _ _ _ _
    (c.compare.ensures ∙ q.0) q.1 _ c.desks_in-desks.ensures c.put_answer-in-Compare.ensures in
    record { wrote = p.0; summary_after = p.1 }

pub returns-in-Picture : goal.returns-in-Picture
returns-in-Picture c =
    let f = folder c.args.book.now c.args.summary.now in
    let q = asked f (ask_picture (numbers_in c.in-Picture.slots.text.now)) in
    let p = printed f _ _ _ _ c.parse.ensures _ c.in-Some.is _ c.in-Picture.is _ _ _ _
    (c.ask_picture.ensures ∙ q.0) q.1
    _ c.desks_in-desks.ensures c.put_answer-in-Picture.ensures in
    record { wrote = p.0; summary_after = p.1 }

pub returns-in-May : goal.returns-in-May
returns-in-May c =
    let f = folder c.args.book.now c.args.summary.now in
    let p = printed f _ _ _ _ c.parse.ensures _ c.in-Some.is _ c.in-May.is _ _ _ _
    c.ask_may.ensures refl _ c.desks_in-desks.ensures c.put_answer-in-May.ensures in
    record { wrote = p.0; summary_after = p.1 }
