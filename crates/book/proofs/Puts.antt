-- A seat, a mail place or a slot is put: one record of the bytes is written.
-- Assumes nothing.
use Prim.Native.Nat.{ℕ, ◌+◌, ◌-◌, ◌<◌}
use mathlib.Core.Path.{◌≡◌, refl, sym, ap, ◌∙◌, subst, fun_ext}
use mathlib.Core.Bool.{Bool, true, false}
use mathlib.Core.Option.{Option}
use mathlib.Core.List.{List}
use native.Mathlib.Omega.{arith}
use borrow.Author.Tests.{ltb-false}
use lib.Dec.{ltb}
use Rattle.tools.specs.Tests.{pick}
use Rattle.tools.specs.Tables.{put}
use Rattle.tools.proofs.Tables.{put_all, put_same, put_other}
use Rattle.rules.specs.Setups.{Setup, limit}
use Rattle.rules.specs.Model.{Seat, Held, Tables, row_in}
use Rattle.rules.specs.Replies.{row_bytes}
use Rattle.book.specs.Layout.{records, shelf_from, mail_from, Record, Holds, post}
use Rattle.book.specs.Codec.{tag_by, tag_to, write_seat, write_mail, write_slot, record_of, write}
use Rattle.book.proofs.Posted.{post_holds}
use Rattle.book.proofs.Codec.{record_seat, record_mail, record_slot}

-- tables whose records are those of t but for one
posted : (X : Setup) (t t' : Tables) (b : List ℕ) → Holds (write (record { setup = X; tables = t })) b → (k : ℕ) → k < records
    → (r : Record)
    → record_of X t' k ≡ r → ((i : ℕ) → (i ≡ k → ⊥) → record_of X t' i ≡ record_of X t i)
    → Holds (write (record { setup = X; tables = t' })) (post b k r.tag_a r.tag_b (row_bytes r.row))
posted X t t' b h k l r here there =
    subst (λ (at : ℕ → Record). Holds (record { setup = X; at = at }) (post b k r.tag_a r.tag_b (row_bytes r.row)))
    (sym (fun_ext (put_all (λ i v. record_of X t' i ≡ v) (record_of X t) k r here there)))
    (post_holds (write (record { setup = X; tables = t })) b h k l r)

module _ (X : Setup) (t : Tables) (b : List ℕ) (h : Holds (write (record { setup = X; tables = t })) b) where
  pub seat_put : (j : ℕ) → j < 8 → (s : Seat)
      → Holds (write (record { setup = X; tables = record { seat = put t.seat j s; mail = t.mail; shelf = t.shelf } }))
      (post b j (pick s.started 1 0) (limit X j) (row_bytes s.row))
  seat_put j l s =
      posted X t (record { seat = put t.seat j s; mail = t.mail; shelf = t.shelf }) b h j (omega arith) (write_seat (limit X j) s)
      (record_seat X (record { seat = put t.seat j s; mail = t.mail; shelf = t.shelf }) j l ∙ ap (write_seat (limit X j)) (put_same t.seat j s))
      (λ i ne.
      ap (λ (x : Seat). pick (ltb i 8) (write_seat (limit X i) x)
      (pick (ltb i shelf_from) (write_mail (t.mail (i - mail_from))) (write_slot (t.shelf (i - shelf_from)))))
      (put_other t.seat j s i ne))

  pub mail_put : (p : ℕ) → p < 32 → (o : Option Held)
      → Holds (write (record { setup = X; tables = record { seat = t.seat; mail = put t.mail p o; shelf = t.shelf } }))
      (post b (mail_from + p) (tag_by o) (tag_to o) (row_bytes (row_in o)))
  mail_put p l o =
      posted X t (record { seat = t.seat; mail = put t.mail p o; shelf = t.shelf }) b h (mail_from + p) (omega arith) (write_mail o)
      (record_mail X (record { seat = t.seat; mail = put t.mail p o; shelf = t.shelf }) p l ∙ ap write_mail (put_same t.mail p o))
      (λ i ne. go i ne (ltb i 8) refl)
    where
      go : (i : ℕ) → (i ≡ mail_from + p → ⊥) → (u : Bool) → ltb i 8 ≡ u
          → pick u (write_seat (limit X i) (t.seat i))
          (pick (ltb i shelf_from) (write_mail (put t.mail p o (i - mail_from))) (write_slot (t.shelf (i - shelf_from))))
          ≡ pick u (write_seat (limit X i) (t.seat i))
          (pick (ltb i shelf_from) (write_mail (t.mail (i - mail_from))) (write_slot (t.shelf (i - shelf_from))))
      go i ne true e = refl
      go i ne false e =
          ap (λ (x : Option Held). pick (ltb i shelf_from) (write_mail x) (write_slot (t.shelf (i - shelf_from))))
          (put_other t.mail p o (i - mail_from) (λ z. ne (omega (arith, z, ltb-false i 8 e))))

  pub slot_put : (p : ℕ) → p < 32 → (o : Option Held)
      → Holds (write (record { setup = X; tables = record { seat = t.seat; mail = t.mail; shelf = put t.shelf p o } }))
      (post b (shelf_from + p) (tag_by o) 0 (row_bytes (row_in o)))
  slot_put p l o =
      posted X t (record { seat = t.seat; mail = t.mail; shelf = put t.shelf p o }) b h (shelf_from + p) (omega arith) (write_slot o)
      (record_slot X (record { seat = t.seat; mail = t.mail; shelf = put t.shelf p o }) p l ∙ ap write_slot (put_same t.shelf p o))
      (λ i ne. go i ne (ltb i 8) refl (ltb i shelf_from) refl)
    where
      go : (i : ℕ) → (i ≡ shelf_from + p → ⊥) → (u : Bool) → ltb i 8 ≡ u → (v : Bool) → ltb i shelf_from ≡ v
          → pick u (write_seat (limit X i) (t.seat i)) (pick v (write_mail (t.mail (i - mail_from))) (write_slot (put t.shelf p o (i - shelf_from))))
          ≡ pick u (write_seat (limit X i) (t.seat i)) (pick v (write_mail (t.mail (i - mail_from))) (write_slot (t.shelf (i - shelf_from))))
      go i ne true e v f = refl
      go i ne false e true f = refl
      go i ne false e false f =
          ap write_slot (put_other t.shelf p o (i - shelf_from) (λ z. ne (omega (arith, z, ltb-false i shelf_from f))))
