-- What a picture shows over a log: of each desk the events up to a chosen one.
-- Assumes nothing. In words: docs/RULES.md, "As if phases never came round".
--   c i                the event that is chosen for desk i
--   Inside h c x       the event x is up to the one that c chooses for its desk
--   Outside h c y      the event y of the log is beyond it
--   Closed h c         no event inside was caused by one outside: no chain leads from the other to the one
--   Caused h c i k     an event of desk i inside was caused by an event of desk k outside
--   Parted h c i k     that is so of the two desks, one way or the other
--   AllInReach X h c   every two choices are within reach
--   OwnChoices D h c   the event chosen for each of D desks is that desk's
--   NoLower i k i' k'  the desks i' and k' are no lower two than i and k: by the first, and where that is the same by the second
--   PictureSaid D h c a  a says yes exactly where the choices are closed, else the lowest two of D desks that are parted
--   PictureIs X h c a  a is the answer to picture, of the stamps of the chosen events
use Rattle.std.specs.Prelude.{◌≡◌, true, ◌⊎◌, ◌↔◌, ℕ, ◌≤◌, ◌<◌}
use Rattle.rules.specs.Setups.{Setup}
use Rattle.rules.specs.Model.{says, names, Answer}
use Rattle.history.specs.History.{Log, Leads}
use Rattle.history.specs.Demand.{InReach}

abbrev pub Inside : Log → (ℕ → ℕ) → ℕ → Type 0
Inside h c x = x ≤ c (h.desk x)

abbrev pub Outside : Log → (ℕ → ℕ) → ℕ → Type 0
Outside h c y = (y < h.count) × (c (h.desk y) < y)

abbrev pub Closed : Log → (ℕ → ℕ) → Type 0
Closed h c = (x y : ℕ) → Inside h c x → Outside h c y → Leads h y x → ⊥

abbrev pub Caused : Log → (ℕ → ℕ) → ℕ → ℕ → Type 0
Caused h c i k = (x : ℕ) × (y : ℕ) × (h.desk x ≡ i) × Inside h c x × (h.desk y ≡ k) × Outside h c y × Leads h y x

abbrev pub Parted : Log → (ℕ → ℕ) → ℕ → ℕ → Type 0
Parted h c i k = Caused h c i k ⊎ Caused h c k i

abbrev pub AllInReach : Setup → Log → (ℕ → ℕ) → Type 0
AllInReach X h c = (i k : ℕ) → i < X.desks → k < X.desks → InReach X h (c i) (c k)

abbrev pub OwnChoices : ℕ → Log → (ℕ → ℕ) → Type 0
OwnChoices D h c = (i : ℕ) → i < D → h.desk (c i) ≡ i

abbrev pub NoLower : ℕ → ℕ → ℕ → ℕ → Type 0
NoLower i k i' k' = (i < i') ⊎ ((i ≡ i') × (k ≤ k'))

pub record PictureSaid (D : ℕ) (h : Log) (c : ℕ → ℕ) (a : Answer) : Type 0 where
  pub done : a.number ≡ 0
  pub either : (a.value ≡ says true) ⊎ ((i : ℕ) × (k : ℕ) × (a.value ≡ names i k))
  pub closed : (a.value ≡ says true) ↔ Closed h c
  pub named : (i k : ℕ) → a.value ≡ names i k
      → (i < k) × (k < D) × Parted h c i k
      × ((i' k' : ℕ) → i' < k' → k' < D → Parted h c i' k' → NoLower i k i' k')

pub record PictureIs (X : Setup) (h : Log) (c : ℕ → ℕ) (a : Answer) : Type 0 where
  pub out : (a.number ≡ 16) ↔ (AllInReach X h c → ⊥)
  pub wrong : (a.number ≡ 18) ↔ (AllInReach X h c × (OwnChoices X.desks h c → ⊥))
  pub said : AllInReach X h c → OwnChoices X.desks h c → PictureSaid X.desks h c a
