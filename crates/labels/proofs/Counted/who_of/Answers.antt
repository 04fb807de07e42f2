use Rattle.std.proofs.Common.{sym, ◌∙◌, true, false}
use Rattle.labels.proofs.Counts.{who_is, who_none}
use Rattle.labels.proofs.Counted.who_of.Goals as goal
use Rattle.labels.proofs.Counted.who_of.Goals.{else-row_reads-via-then-row_reads+else-head_reads, else-row_reads-via-else-row_reads}

pub returns-in_default : goal.returns-in_default
returns-in_default c = who_none _ _ c.in_default.ensures.cases

pub returns-then-head_reads : goal.returns-then-head_reads
returns-then-head_reads c =
    rw (← c.in-Some.ensures.cases.same)
    (who_is _ _ true (rw (sym c.row_reads.ensures ∙ c.if-row_reads.true, sym c.head_reads.ensures ∙ c.if-head_reads.true)))

pub returns : goal.returns
returns c =
    rw (← c.in-Some.ensures.cases.same)
    (who_is _ _ false
    (elim c.else-row_reads.branch [
      | else-row_reads-via-then-row_reads+else-head_reads w ↦
          rw (sym c.row_reads.ensures ∙ w.if-row_reads.true, sym w.head_reads.ensures ∙ w.if-head_reads.false)
      | else-row_reads-via-else-row_reads w ↦ rw (sym c.row_reads.ensures ∙ w.if-row_reads.false)
    ]))
