-- Laws of texts in a buffer.
-- Assumes nothing.
--   put_length            a buffer keeps its length
--   take_put, drop_put    what stands before the end of the text, and what stands after it
--   put_put               a text after a text is their join
--   wrote_length          so it does where a text was written
--   same_text             of two texts that are the same the one is written where the other is
--   written               a text that was written from the front on stands there
--   none, one, then       nothing written; one byte; two writes, one after the other
--   put_paste             a text whose bytes are pasted one by one
use Prim.Native.Nat.{ℕ, ◌+◌, ◌<◌, ◌≤◌}
use mathlib.Core.Path.{◌≡◌, sym, ap, subst, ◌∙◌}
use mathlib.Core.List.{List, [], ◌∷◌, ◌++◌, append_assoc}
use native.Mathlib.Nat.{add_assoc}
use native.Mathlib.Numerals.{add-one}
use native.Mathlib.Omega.{arith}
use lib.ListN.{length, take, drop, set, length-take, length-append, length-drop}
use lib.Seq.{take_at, drop_at, drop-drop, paste, paste-zero, take-length, set_split, append_snoc}
use Rattle.text.specs.Put.{put, Wrote}

module _ (xs : List ℕ) (at : ℕ) (ys : List ℕ) (fits : at + length ys ≤ length xs) where
  head_length : length (take at xs ++ ys) ≡ at + length ys
  head_length = simp (length-append, length-take) (omega arith)

  pub put_length : length (put xs at ys) ≡ length xs
  unfolding put
  put_length = simp (length-append, length-take, length-drop) (omega arith)

  -- what stands before the end of the text, and what stands after it
  pub take_put : take (at + length ys) (put xs at ys) ≡ take at xs ++ ys
  unfolding put
  take_put = take_at (take at xs ++ ys) _ (at + length ys) head_length

  pub drop_put : drop (at + length ys) (put xs at ys) ≡ drop (at + length ys) xs
  unfolding put
  drop_put = drop_at (take at xs ++ ys) _ (at + length ys) head_length

  pub drop_after : (n : ℕ) → drop (at + length ys + n) (put xs at ys) ≡ drop (at + length ys + n) xs
  drop_after n =
      sym (drop-drop n (at + length ys) (put xs at ys)) ∙ ap (drop n) drop_put ∙ drop-drop n (at + length ys) xs

put_by
    : (w : List ℕ) (n : ℕ) (zs h t : List ℕ) → take n w ≡ h → drop (n + length zs) w ≡ t → put w n zs ≡ h ++ zs ++ t
unfolding put
put_by w n zs h t a b = rw (a, b)

joined
    : (xs : List ℕ) (at : ℕ) (ys zs : List ℕ)
    → take at xs ++ ys ++ zs ++ drop (at + length ys + length zs) xs ≡ put xs at (ys ++ zs)
unfolding put
joined xs at ys zs = simp (append_assoc, length-append, add_assoc)

-- a text after a text is their join
pub put_put
    : (xs : List ℕ) (at : ℕ) (ys zs : List ℕ)
    → at + length ys ≤ length xs
    → put (put xs at ys) (at + length ys) zs ≡ put xs at (ys ++ zs)
put_put xs at ys zs fits =
    put_by (put xs at ys) (at + length ys) zs _ _ (take_put xs at ys fits) (drop_after xs at ys fits (length zs))
    ∙ joined xs at ys zs

pub wrote_length : {xs s ys : List ℕ} {at n : ℕ} → Wrote xs at s ys n → length ys ≡ length xs
wrote_length {xs} {s} {ys} {at} w = ap length w.left ∙ put_length xs at s w.fits

pub same_text : {xs s t ys : List ℕ} {at n : ℕ} → s ≡ t → Wrote xs at s ys n → Wrote xs at t ys n
same_text {xs} {s} {t} {ys} {at} {n} e w = subst (λ (u : List ℕ). Wrote xs at u ys n) e w

pub written : {xs s ys : List ℕ} {n : ℕ} → Wrote xs 0 s ys n → take n ys ≡ s
written {xs} {s} w = rw (w.left, w.ends) (take_put xs 0 s w.fits)

-- two writes, one after the other, write the two texts joined
pub then
    : {xs ys zs s t : List ℕ} {at n m : ℕ} → Wrote xs at s ys n → Wrote ys n t zs m → Wrote xs at (s ++ t) zs m
then {xs} {ys} {zs} {s} {t} {at} {n} {m} a b =
    record {
      left = b.left ∙ rw (a.left, a.ends) (put_put xs at s t a.fits);
      ends = simp length-append (omega arith);
      fits = simp length-append (omega (arith, wrote_length a));
    }

-- nothing written
pub none : (xs : List ℕ) (at : ℕ) → at ≤ length xs → Wrote xs at [] xs at
unfolding put
none xs at l = record { left = paste-zero xs at []; ends = omega arith; fits = omega arith }

pub one : (xs : List ℕ) (at b n : ℕ) → at < length xs → n ≡ at + 1 → Wrote xs at (b ∷ []) (set xs at b) n
unfolding put
one xs at b n l e =
    record {
      left = rw (put, add-one) (set_split xs at b l ∙ sym (append_snoc (take at xs) b _));
      ends = omega arith;
      fits = omega arith;
    }

pub put_paste : (xs : List ℕ) (at : ℕ) (ys : List ℕ) → paste xs at ys (length ys) ≡ put xs at ys
unfolding put
put_paste xs at ys = rw (put, take-length)
