use Rattle.text.specs.Stream.{start, text_of, after}
use Rattle.text.proofs.Writing.{none, then, wrote_length}
use Rattle.text.proofs.Streams.{more_text, more_after, tail_text, tail_after}
use Rattle.office.specs.Office.{folder}
use Rattle.answering.specs.Answering.{answering}
use Rattle.listing.proofs.Listings.{kept_few}
use borrow.Author.Tests.{leb-true}
use native.Mathlib.Omega.{arith}
use lib.ListN.{length}
use mathlib.Core.List.{List}
use mathlib.Core.Path.{refl, sym, ap, ◌∙◌}
use Prim.Native.Nat.{ℕ, ◌<◌}
use Rattle.listing.proofs.feed_lines.Goals as goal

pub loop-stop-init : goal.loop-stop-init
unfolding text_of after
loop-stop-init c = record { ends = c.line_end-stop.ensures; wrote = none _ _ c.requires.at; left = refl }

pub overflow_sub-out : goal.overflow_sub-out
overflow_sub-out c =
    let w = c.loop-stop.invariant.wrote in
    omega (arith, w.ends, w.fits, wrote_length w)

pub answer-end-requires : goal.answer-end-requires
answer-end-requires c = omega (arith, leb-true)

pub loop-stop-preserved : goal.loop-stop-preserved
loop-stop-preserved c =
    let h = c.loop-stop in
    let a = c.args in
    let s = start (folder a.book.now a.summary.now) in
    let f = folder h.book h.summary in
    let v = h.invariant in
    let l : h.stop < length a.piece.now = omega arith in
    record {
      ends = c.line_end-stop-in-loop-stop.ensures;
      wrote = rw (more_text answering s f a.piece.now h.from h.stop v.ends v.left l) (then v.wrote c.answer-end.ensures.wrote);
      left =
          more_after answering s f a.piece.now h.from h.stop v.ends v.left l ∙ ap start (sym c.answer-end.ensures.summary_after);
    }

pub returns : goal.returns
returns c =
    let h = c.loop-stop in
    let a = c.args in
    let s = start (folder a.book.now a.summary.now) in
    let f = folder h.book h.summary in
    let v = h.invariant in
    record {
      wrote = rw (tail_text answering s f a.piece.now h.from h.stop v.ends v.left) v.wrote;
      feeds = record {
        within = v.ends.within;
        few = kept_few _ _ c.lengthen.ensures;
        left =
            rw (tail_after answering s f a.piece.now h.from h.stop v.ends v.left)
            (ap (λ (l : List ℕ). record { book = f; line = l })
            (rw c.requires.none_begun at c.lengthen.ensures));
      };
    }
