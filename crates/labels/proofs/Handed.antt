-- What newest may hand back is one slice: it lies in one place and has the same bytes.
-- Assumes nothing.
use mathlib.Core.Path.{◌≡◌, sym, ap, ◌∙◌}
use Rattle.rules.specs.Labels.{Which, First, Second, Neither}
use Rattle.parts.specs.Slices.{Slice}
use Rattle.labels.specs.Records.{HandedBack}

same_slice : (r q : Slice) → r ≡ q → (r.ref_ptr ≡ q.ref_ptr) × (r.now ≡ q.now)
same_slice r q e = (ap (λ (s : Slice). s.ref_ptr) e, ap (λ (s : Slice). s.now) e)

-- Two slices that it may hand back are alike to the caller.
pub handed_once : (w : Which) (a b r q : Slice) → HandedBack w a b r → HandedBack w a b q → (r.ref_ptr ≡ q.ref_ptr) × (r.now ≡ q.now)
handed_once First a b r q h k = same_slice r q (h ∙ sym k)
handed_once Second a b r q h k = same_slice r q (h ∙ sym k)
handed_once Neither a b r q h k = (h.0 ∙ sym k.0, h.1 ∙ sym k.1)
