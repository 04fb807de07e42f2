-- A text and what stands behind it, if something does.
-- Assumes nothing.
--   behind   a text is written, and then f of what o holds: both are
use mathlib.Core.List.{List, [], append-nil}
use mathlib.Core.Option.{Option, none, some}
use Prim.Native.Nat.{ℕ}
use Rattle.text.specs.Put.{Wrote}
use Rattle.text.proofs.Writing as Writing
use Rattle.replies.specs.Print.{then}

pub behind
    : {A : Type 0} {xs ys zs s : List ℕ} {at n m : ℕ} (f : A → List ℕ) (o : Option A)
    → Wrote xs at s ys n
    → Wrote ys n (then [] f o) zs m
    → Wrote xs at (then s f o) zs m
behind {s = s} f none a b = rw (append-nil s) at (Writing.then a b)
behind f (some v) a b = Writing.then a b
