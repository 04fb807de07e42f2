use Rattle.text.specs.Stream.{held, line_of}
use Rattle.text.proofs.Writing.{none, then}
use Rattle.text.proofs.Streams.{quiet, gathers, first_plain, first_text, first_after}
use Rattle.answering.specs.Answering.{line_text, line_folder, answering}
use Rattle.office.specs.Office.{folder}
use Rattle.answering.proofs.Answered.{blind}
use Rattle.listing.proofs.Listings.{kept_few}
use native.Mathlib.Omega.{arith}
use lib.ListN.{length, take, drop, length-take, length-drop}
use lib.Seq.{take_all}
use mathlib.Core.List.{List, ◌++◌}
use mathlib.Core.Path.{◌≡◌, ap, ◌∙◌}
use Prim.Native.Nat.{ℕ, ◌+◌, ◌-◌, ◌<◌}
use Rattle.listing.proofs.feed.Goals as goal

pub returns-then-stop-piece : goal.returns-then-stop-piece
returns-then-stop-piece c =
    let a = c.args in
    let b = folder a.book.now a.summary.now in
    let s = held b (line_of a.pending.now) in
    let e = c.line_end-stop in
    let xs = a.piece.now in
    let f = first_plain answering s xs e.result e.ensures in
    record {
      wrote = rw (quiet answering s (take e.result xs) f) (none a.out.now 0 (omega arith));
      feeds = record {
        within = e.ensures.within;
        few = kept_few _ _ c.lengthen.ensures;
        left = rw (gathers answering s (take e.result xs) f) (ap (λ (l : List ℕ). record { book = b; line = l }) c.lengthen.ensures);
      };
      used_nonzero = λ l. omega arith;
    }

pub returns : goal.returns
returns c =
    let a = c.args in
    let b = folder a.book.now a.summary.now in
    let xs = a.piece.now in
    let s = held b (line_of a.pending.now) in
    let e = c.line_end-stop in
    let f = c.feed_lines-fed in
    let u = f.result.used in
    let l : e.result < length xs = omega (arith, e.ensures.within, c.if-stop-piece.false) in
    let whole = line_of a.pending.now ++ take e.result xs in
    let w : take (length xs - (e.result + 1)) (drop (e.result + 1) xs) ≡ drop (e.result + 1) xs =
    take_all (length xs - (e.result + 1)) (drop (e.result + 1) xs) (simp length-drop (omega arith)) in
    let line : c.as_slice.result.now ≡ take 65 whole = c.as_slice.ensures ∙ c.lengthen.ensures in
    let text : line_text b c.as_slice.result.now ≡ line_text b whole = ap (line_text b) line ∙ blind.says b whole in
    let told = c.answer-end.ensures in
    let book : _ ≡ line_folder b whole = told.summary_after ∙ ap (line_folder b) line ∙ blind.leaves b whole in
    record {
      wrote =
          rw (first_text answering s xs e.result e.ensures l u)
          (then (rw text at told.wrote) (rw (book, w) at f.ensures.wrote));
      feeds = record {
        -- what is taken in lies within the piece
        within = omega (arith, e.ensures.within, l, simp (length-take, length-drop) at f.ensures.feeds.within);
        few = f.ensures.feeds.few;
        left = rw (first_after answering s xs e.result e.ensures l u) (rw (book, w) at f.ensures.feeds.left);
      };
      used_nonzero = λ _. omega arith;
    }
