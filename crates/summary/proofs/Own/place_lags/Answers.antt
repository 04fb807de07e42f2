use Rattle.std.proofs.Common.{sym, ◌∙◌}
use Rattle.summary.proofs.Lanes.{lanes_still, lanes_wider, free_lag, used_lag}
use Rattle.summary.proofs.Own.place_lags.Goals as goal

pub returns-then-tag_a-eq-FREE : goal.returns-then-tag_a-eq-FREE
returns-then-tag_a-eq-FREE c =
    lanes_still _ c.args.lags.now c.requires.2
    (free_lag c.args.self.now.book.now c.args.first c.args.place c.requires.1 (sym c.tag_a.ensures ∙ c.if-tag_a-eq-FREE.true))

pub returns : goal.returns
returns c =
    lanes_wider c.args.lags.now _ _ _ (used_lag c.args.self.now.book.now c.args.first c.args.place c.requires.1
    (λ q. c.if-tag_a-eq-FREE.false (c.tag_a.ensures ∙ q)))
    c.row_lags.ensures
