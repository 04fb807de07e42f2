-- What a call answers and leaves, from what it is granted: refused, or done.
-- Assumes nothing.
use Prim.Native.Nat.{ℕ, ◌+◌, ◌<◌}
use mathlib.Core.Path.{◌≡◌, refl, sym, ap, ◌∙◌, subst}
use mathlib.Core.Bool.{Bool, true, false, not}
use mathlib.Core.Option.{Option, none, some}
use mathlib.Core.List.{List}
use native.Mathlib.Omega.{arith}
use borrow.Author.Tests.{lt-ltb}
use lib.Dec.{ltb}
use lib.ListN.{length}
use Rattle.std.specs.Prelude.{Some, None, Ok, Err, IfSome}
use Rattle.std.specs.Prelude as Std
use Rattle.tools.specs.Tests.{pick}
use Rattle.tools.specs.Tables.{put, put_at, Each}
use Rattle.tools.specs.Lists.{byte}
use Rattle.tools.specs.Reasons.{if_done}
use Rattle.tools.proofs.Reasons.{if_undone}
use Rattle.tools.proofs.Tests.{not_off}
use Rattle.rules.specs.Setups.{Setup, limit}
use Rattle.rules.specs.declared.Stamped.{Stamped}
use Rattle.rules.specs.declared.Refusal.{Refusal}
use Rattle.rules.specs.Numbers.{number}
use Rattle.rules.specs.Model.{Row, Held, Tables, Act, Value, Answer, made, refusal, accepted}
use Rattle.rules.specs.Model.{local, send, receive, reset, drop, discard}
use Rattle.rules.specs.Model.{Result, reasons, done, own, seated, event, free_mail, free_slot, slot_for, used}
use Rattle.rules.specs.Calls.{on, ring_of}
use Rattle.rules.specs.Replies as Replies
use Rattle.rules.specs.Replies.{row_bytes, row_of, slot_in, number_in, answer_by, done_says}
use Rattle.rules.proofs.Accepted.{no_local, no_send, no_receive, no_reset}
use Rattle.rules.proofs.Once.{not_done}
use Rattle.rules.proofs.RowBytes.{Eight, row_of_bytes}
use Rattle.book.specs.Layout.{book_size, places, shelf_from, mail_from, tag_b_spot, Record, spot, setup_of, Holds, post}
use Rattle.book.specs.Sound.{sound}
use Rattle.book.specs.Codec.{write}
use Rattle.book.specs.Answers.{answer_to, book_after}
use Rattle.book.specs.Numbers.{tables_of, why_of, number_of}
use Rattle.book.proofs.Bytes.{tag_b_is}
use Rattle.book.proofs.Codec.{record_seat, decode_holds}
use Rattle.book.proofs.Puts.{seat_put, mail_put, slot_put}
use Rattle.book.proofs.Numbers.{done_on, refused_answer, refused_bytes, ready, accepted_answer, accepted_bytes}
use Rattle.book.proofs.Soundness.{sound_size}
use Rattle.book.proofs.Stamped.{seat_put_eight, merged_eight}
use Rattle.book.proofs.Told.{few_desks}
use Rattle.rows.specs.Rows.{AtDesk, Grows, grown_row, turned_row, merged_row, learnt_from}
use Rattle.rows.proofs.Rows.{at_desk, grows}
use Rattle.reasons.specs.Held.{used_at, free_from, free_place}
use Rattle.reasons.proofs.Held.{used_below}
use Rattle.refusals.specs.First.{used_number}
use Rattle.refusals.specs.Grants.{Grant, granted_by, grant, grant_of}
use Rattle.refusals.proofs.First.{asked_clear}
use Rattle.portal.specs.Freed.{cleared, free_after}
use Rattle.portal.specs.Kept.{row_taken, shelved}

-- the answer a to an act, and the bytes b that it leaves
abbrev pub Acts : List ℕ → Act → Answer → List ℕ → Type 0
Acts s c a b = (a ≡ answer_to s (on c)) × (b ≡ book_after s (on c))

-- refused
module _ (s : List ℕ) (c : Act) (r : Refusal) where
  pub refused_acts : number r ≡ number_of s c → Acts s c (refusal (number r)) s
  refused_acts e = (refused_answer s c (number r) e (not_done r), refused_bytes s c (number r) e (not_done r))

  -- as the answer x, of whatever value
  module _ {A : Type 0} (v : A → Value) (x : Std.Result A Refusal) (h : x ≡ Err r) where
    pub refused_event : (q : Bool) → granted_by (Err r) ≡ grant_of s c q → Acts s c (answer_by v x) s
    refused_event q e = let f = refused_acts (ap (λ (g : Grant). g.number) e) in (ap (answer_by v) h ∙ f.0, f.1)

-- what a question is told of the whole book b is told of its bytes s
pub told_of : (s b : List ℕ) (c : Act) (a : Answer) → b ≡ s → a ≡ answer_to b (on c) → a ≡ answer_to s (on c)
told_of s b c a e h = h ∙ ap (λ (s : List ℕ). answer_to s (on c)) e

-- the slot for an event; none where it is not kept
abbrev slot_to : Tables → Bool → Std.Option ℕ
slot_to t q = pick q (pick (ltb (free_slot t) places) (Some (free_slot t)) None) None

slot_said : (t : Tables) (q : Bool) → Each (λ k. k < 32) (slot_for t q) → slot_in (slot_to t q) ≡ slot_for t q
slot_said t true l = rw (lt-ltb (free_slot t) 32 l)
slot_said t false l = refl

slot_below : (t : Tables) (q : Bool) → Each (λ k. k < 32) (slot_for t q) → IfSome (slot_to t q) (λ k. k < 32)
slot_below t true l = rw (lt-ltb (free_slot t) 32 l) l
slot_below t false l = tt

slot_left : (X : Setup) (t : Tables) (b : List ℕ) → Holds (write (record { setup = X; tables = t })) b
    → (j : ℕ) (r : Row) (q : Bool) → Each (λ k. k < 32) (slot_for t q)
    → Holds
    (write (record {
      setup = X;
      tables = record {
        seat = t.seat;
        mail = t.mail;
        shelf = put_at t.shelf (slot_for t q) (some record { by = j; to = 0; row = r });
      };
    }))
    (shelved b j (row_bytes r) (slot_to t q))
slot_left X t b h j r true l = rw (lt-ltb (free_slot t) 32 l) (slot_put X t b h (free_slot t) l (some record { by = j; to = 0; row = r }))
slot_left X t b h j r false l = h

-- the stamp of an event at j that leaves the bytes of a row, and its slot
abbrev pub stamped : ℕ → List ℕ → Std.Option ℕ → Stamped
stamped j row k = record { stamp = record { owner = j; row = row }; slot = k }

-- the place that there is
abbrev place_in : Std.Option ℕ → ℕ
place_in None = 0
place_in (Some p) = p

-- the tables with the mail as given
abbrev posted : List ℕ → (ℕ → Option Held) → Tables
posted s mail = record { seat = (tables_of s).seat; mail = mail; shelf = (tables_of s).shelf }

-- an act that is granted a slot
module _ (s : List ℕ) (c : Act) (q : Bool) (k : Std.Option ℕ) (g : granted_by (Ok k) ≡ grant_of s c q) where
  granted_done : number_of s c ≡ 0
  granted_done = sym (ap (λ (g : Grant). g.number) g)

  granted_slot : k ≡ slot_to (tables_of s) q
  granted_slot = ap (λ (g : Grant). g.slot) g ∙ ap (λ (n : ℕ). (grant s n q).slot) granted_done

  granted_ready : (sound s ≡ true) × (why_of s c ≡ 0)
  granted_ready = ready s c granted_done

  pub granted_size : length s ≡ book_size
  granted_size = sound_size s granted_ready.0

  granted_below : Each (λ k. k < 32) (slot_for (tables_of s) q) → IfSome k (λ k. k < 32)
  granted_below room = subst (λ (o : Std.Option ℕ). IfSome o (λ k. k < 32)) (sym granted_slot) (slot_below (tables_of s) q room)

  -- an event at j that leaves row r: b has the mail already; j's seat is written, then the slot
  module _ (j : ℕ) (l : j < 8) (r : Row) (p o : Option ℕ) (mail : ℕ → Option Held)
      (d : done_on s c ≡ event (tables_of s) j r q p o mail) (room : Each (λ k. k < 32) (slot_for (tables_of s) q)) (b : List ℕ)
      (h : Holds (write (record { setup = setup_of s; tables = posted s mail })) b) (z : Eight r)
      (row : List ℕ) (er : row ≡ row_bytes r) where
    abbrev seat_taken : Tables
    seat_taken = record { seat = seated (tables_of s) j r; mail = mail; shelf = (tables_of s).shelf }

    abbrev its_limit : ℕ
    its_limit = limit (setup_of s) j

    -- the seat has its desk's limit already
    limit_stays : byte b (spot j tag_b_spot) ≡ its_limit
    limit_stays =
        tag_b_is (write (record { setup = setup_of s; tables = posted s mail })) b h j (omega arith)
        ∙ ap (λ (x : Record). x.tag_b) (record_seat (setup_of s) (posted s mail) j l)

    event_left : shelved (row_taken b j row) j row k ≡ book_after s (on c)
    event_left =
        (λ i. shelved (post b j 1 (limit_stays i) (er i)) j (er i) (granted_slot i))
        ∙ accepted_bytes s c granted_done (shelved (post b j 1 its_limit (row_bytes r)) j (row_bytes r) (slot_to (tables_of s) q))
        (subst
        (λ (o : Result). Holds (write (record { setup = setup_of s; tables = o.tables }))
        (shelved (post b j 1 its_limit (row_bytes r)) j (row_bytes r) (slot_to (tables_of s) q))) (sym d)
        (slot_left (setup_of s) seat_taken (post b j 1 its_limit (row_bytes r))
        (seat_put (setup_of s) (posted s mail) b h j l (record { started = true; row = r })) j r q room))

    event_said : accepted (made p j (row_of row) o (slot_in k)) ≡ answer_to s (on c)
    event_said =
        let er' = ap row_of er ∙ row_of_bytes r z in
        let ek' = ap slot_in granted_slot ∙ slot_said (tables_of s) q room in
        (λ i. accepted (made p j (er' i) o (ek' i))) ∙ ap (λ (o : Result). o.answer) (sym d) ∙ accepted_answer s c granted_done

    -- as its steps tell it: the stamp x, and the bytes y after the mail and b' at the end
    event_acts : (x : Stamped) (y b' : List ℕ) → x ≡ stamped j row k → y ≡ b → b' ≡ shelved (row_taken y j row) j row k
        → Acts s c (accepted (Replies.event p x.stamp o x.slot)) b'
    event_acts x y b' ex ey eb = (
      ap (λ (x : Stamped). accepted (Replies.event p x.stamp o x.slot)) ex ∙ event_said,
      eb ∙ ap (λ (y : List ℕ). shelved (row_taken y j row) j row k) ey ∙ event_left,
    )

-- what is granted on the bytes s is so on the whole book b that is lent of them, and what is done on it is done on them
module _ (s b : List ℕ) (same : b ≡ s) (c : Act) where
  pub lent : (q : Bool) (k : Std.Option ℕ) → granted_by (Ok k) ≡ grant_of s c q → granted_by (Ok k) ≡ grant_of b c q
  lent q k g = g ∙ ap (λ (s : List ℕ). grant_of s c q) (sym same)

  pub returned : (a : Answer) (b' : List ℕ) → Acts b c a b' → Acts s c a b'
  returned a b' = subst (λ (s : List ℕ). Acts s c a b') same

-- local and reset change no mail
module _ (s : List ℕ) (j : ℕ) (q : Bool) (k : Std.Option ℕ) (g : granted_by (Ok k) ≡ grant_of s (local j q) q) where
  local_clear : (j < byte s 2) × ((own (tables_of s) j).clock + 1 < limit (setup_of s) j) × Each (λ k. k < 32) (slot_for (tables_of s) q)
  local_clear = no_local (ring_of (setup_of s)) (setup_of s) (tables_of s) j q (granted_ready s (local j q) q k g).1

  pub local_grows : Grows s j
  local_grows = grows s j (granted_ready s (local j q) q k g).0 local_clear.0 local_clear.1

  pub local_below : IfSome k (λ k. k < 32)
  local_below = granted_below s (local j q) q k g local_clear.2

  pub local_acts : (x : Stamped) (row b : List ℕ) → x ≡ stamped j row k → row ≡ row_bytes (grown_row s j)
      → b ≡ shelved (row_taken s j row) j row k → Acts s (local j q) (accepted (Replies.stamped_value x)) b
  unfolding done
  local_acts x row b ex er eb =
      let a = local_grows.at in
      event_acts s (local j q) q k g j a.eight (grown_row s j) none none (tables_of s).mail refl local_clear.2 s
      (decode_holds s a.whole) (seat_put_eight s j a.eight _) row er x s b ex refl eb

module _ (s : List ℕ) (j : ℕ) (q : Bool) (k : Std.Option ℕ) (g : granted_by (Ok k) ≡ grant_of s (reset j q) q) where
  pub reset_at_lem : AtDesk s j
  reset_at_lem =
      let r = granted_ready s (reset j q) q k g in
      at_desk s j r.0 (no_reset (ring_of (setup_of s)) (setup_of s) (tables_of s) j q r.1).0

  reset_room : Each (λ k. k < 32) (slot_for (tables_of s) q)
  reset_room = (no_reset (ring_of (setup_of s)) (setup_of s) (tables_of s) j q (granted_ready s (reset j q) q k g).1).4

  pub reset_below : IfSome k (λ k. k < 32)
  reset_below = granted_below s (reset j q) q k g reset_room

  pub reset_acts : (x : Stamped) (row b : List ℕ) → x ≡ stamped j row k → row ≡ row_bytes (turned_row s j)
      → b ≡ shelved (row_taken s j row) j row k → Acts s (reset j q) (accepted (Replies.stamped_value x)) b
  unfolding done
  reset_acts x row b ex er eb =
      let a = reset_at_lem in
      event_acts s (reset j q) q k g j a.eight (turned_row s j) none none (tables_of s).mail refl reset_room s
      (decode_holds s a.whole) (seat_put_eight s j a.eight _) row er x s b ex refl eb

module _ (s : List ℕ) (j p : ℕ) (q : Bool) (k : Std.Option ℕ) (g : granted_by (Ok k) ≡ grant_of s (receive j p q) q) where
  receive_clear : (j < byte s 2) × (used ((tables_of s).mail p) ≡ true) × ((own (tables_of s) j).clock + 1 < limit (setup_of s) j) × (p < 32)
      × Each (λ k. k < 32) (slot_for (tables_of s) q)
  receive_clear = no_receive (ring_of (setup_of s)) (setup_of s) (tables_of s) j p q (granted_ready s (receive j p q) q k g).1

  pub receive_grows : Grows s j
  receive_grows = let o = receive_clear in grows s j (granted_ready s (receive j p q) q k g).0 o.0 o.2

  pub receive_place : p < 32
  receive_place = receive_clear.3

  pub receive_below : IfSome k (λ k. k < 32)
  receive_below = granted_below s (receive j p q) q k g receive_clear.4

  pub receive_acts : (x : Stamped) (n : ℕ) (row y b : List ℕ) → x ≡ stamped j row k → row ≡ row_bytes (merged_row s j p)
      → n ≡ learnt_from s j p → y ≡ cleared s (mail_from + p) → b ≡ shelved (row_taken y j row) j row k
      → Acts s (receive j p q) (accepted (Replies.event none x.stamp (some n) x.slot)) b
  unfolding done
  receive_acts x n row y b ex er en ey eb =
      let a = receive_grows.at in
      let r = event_acts s (receive j p q) q k g j a.eight (merged_row s j p) none (some (learnt_from s j p))
      (put (tables_of s).mail p none) refl receive_clear.4 (cleared s (mail_from + p))
      (mail_put (setup_of s) (tables_of s) s (decode_holds s a.whole) p receive_place none)
      (merged_eight s (ring_of (setup_of s)) j p a.eight) row er x y b ex ey eb in
      (ap (λ (n : ℕ). accepted (Replies.event none x.stamp (some n) x.slot)) en ∙ r.0, r.1)

module _ (s : List ℕ) (j d : ℕ) (q : Bool) (k : Std.Option ℕ) (g : granted_by (Ok k) ≡ grant_of s (send j d q) q) where
  send_clear : (j < byte s 2) × ((own (tables_of s) j).clock + 1 < limit (setup_of s) j) × (free_mail (tables_of s) < 32) × (d < byte s 2) × (j ≡ d → ⊥)
      × Each (λ k. k < 32) (slot_for (tables_of s) q)
  send_clear = no_send (ring_of (setup_of s)) (setup_of s) (tables_of s) j d q (granted_ready s (send j d q) q k g).1

  pub send_grows : Grows s j
  send_grows = let n = send_clear in grows s j (granted_ready s (send j d q) q k g).0 n.0 n.1

  pub send_below : IfSome k (λ k. k < 32)
  send_below = granted_below s (send j d q) q k g send_clear.5

  -- the free mail place is there
  place_is : free_place s mail_from ≡ Some (free_from s mail_from)
  place_is = rw (lt-ltb (free_mail (tables_of s)) 32 send_clear.2)

  module _ (o : Std.Option ℕ) (e : o ≡ free_place s mail_from) where
    pub send_found : Std.IsSome o
    send_found = ap Std.is_some (e ∙ place_is)

    pub send_place : (p : ℕ) → o ≡ Some p → (p ≡ free_from s mail_from) × (p < 32)
    send_place p h =
        let q : p ≡ free_mail (tables_of s) = ap place_in (sym h ∙ e ∙ place_is) in
        (q, omega (arith, q, send_clear.2))

  pub send_to : d < 8
  send_to = let n = send_clear in omega (arith, n.3, few_desks s (granted_ready s (send j d q) q k g).0)

  pub send_acts : (p : ℕ) (x : Stamped) (row y b : List ℕ) → p ≡ free_from s mail_from → x ≡ stamped j row k
      → row ≡ row_bytes (grown_row s j) → y ≡ post s (mail_from + p) (j + 1) (d + 1) row
      → b ≡ shelved (row_taken y j row) j row k
      → Acts s (send j d q) (accepted (Replies.event (some p) x.stamp none x.slot)) b
  unfolding done
  send_acts p x row y b ep ex er ey eb =
      let a = send_grows.at in
      let mailed = some record { by = j; to = d; row = grown_row s j } in
      let r = event_acts s (send j d q) q k g j a.eight (grown_row s j) (some (free_mail (tables_of s))) none
      (put (tables_of s).mail (free_mail (tables_of s)) mailed) refl send_clear.5
      (post s (8 + free_mail (tables_of s)) (j + 1) (d + 1) (row_bytes (grown_row s j)))
      (mail_put (setup_of s) (tables_of s) s (decode_holds s a.whole) (free_mail (tables_of s)) send_clear.2 mailed)
      (seat_put_eight s j a.eight _) row er x y b ex (ey ∙ (λ i. post s (8 + ep i) (j + 1) (d + 1) (er i))) eb in
      (ap (λ (p : ℕ). accepted (Replies.event (some p) x.stamp none x.slot)) ep ∙ r.0, r.1)

-- a used place or slot is freed
module _ (s : List ℕ) (a p : ℕ) where
  pub used_ready : used_number s a p ≡ 0 → (sound s ≡ true) × (p < 32)
  used_ready e = let q = asked_clear s (not (used_at s a p)) 4 e in (q.0, used_below s a p (not_off _ q.1))

  pub free_done : used_number s a p ≡ 0 → (b : List ℕ) → b ≡ cleared s (a + p) → b ≡ free_after s a p
  free_done e b eb = eb ∙ ap (λ (n : ℕ). if_done n (cleared s (a + p)) s) (sym e)

  pub free_left : (r : Refusal) → number r ≡ used_number s a p → s ≡ free_after s a p
  free_left r e = sym (if_undone (used_number s a p) _ s (λ z. not_done r (e ∙ z)))

  -- by an act that asks for it alone
  module _ (c : Act) (e : used_number s a p ≡ number_of s c) (v : number_of s c ≡ 0 → refusal 0 ≡ answer_to s (on c))
      (h : number_of s c ≡ 0 → Holds (write (record { setup = setup_of s; tables = (done_on s c).tables })) (cleared s (a + p))) where
    number_acts : (r : Std.Result (Unit {0}) Refusal) → number_in r ≡ number_of s c
        → Acts s c (done_says r) (if_done (number_in r) (cleared s (a + p)) s)
    number_acts (Ok u) q = (v (sym q), accepted_bytes s c (sym q) _ (h (sym q)))
    number_acts (Err r) q = let f = refused_acts s c r q in (f.0, if_undone (number r) _ s (not_done r) ∙ f.1)

    free_acts : (r : Std.Result (Unit {0}) Refusal) (b : List ℕ) → number_in r ≡ used_number s a p → b ≡ free_after s a p
        → Acts s c (done_says r) b
    free_acts r b en eb =
        let f = number_acts r (en ∙ e) in
        (f.0, eb ∙ ap (λ (n : ℕ). if_done n (cleared s (a + p)) s) (sym en) ∙ f.1)

pub drop_acts : (s : List ℕ) (p : ℕ) (r : Std.Result (Unit {0}) Refusal) (b : List ℕ)
    → number_in r ≡ used_number s shelf_from p
    → b ≡ free_after s shelf_from p → Acts s (drop p) (done_says r) b
unfolding reasons done
drop_acts s p =
    free_acts s shelf_from p (drop p) refl (accepted_answer s (drop p))
    (λ e. let u = used_ready s shelf_from p e in slot_put (setup_of s) (tables_of s) s (decode_holds s u.0) p u.1 none)

pub discard_acts : (s : List ℕ) (p : ℕ) (r : Std.Result (Unit {0}) Refusal) (b : List ℕ)
    → number_in r ≡ used_number s mail_from p
    → b ≡ free_after s mail_from p → Acts s (discard p) (done_says r) b
unfolding reasons done
discard_acts s p =
    free_acts s mail_from p (discard p) refl (accepted_answer s (discard p))
    (λ e. let u = used_ready s mail_from p e in mail_put (setup_of s) (tables_of s) s (decode_holds s u.0) p u.1 none)
