-- The parts of a list after a window has changed.
use Rattle.std.proofs.Common.{◌≡◌, ℕ, zero, suc, ◌<◌, ◌≤◌, List, [], ◌∷◌, length, get_or, set, refl, ap, arith}
use Rattle.schedule.specs.declared.Part.{Part}
use Rattle.std.proofs.lemmas.List.{length-take-le}
use Rattle.parts.specs.Fixed.{elements}
use Rattle.parts.specs.Parts.{with_window}
use Rattle.parts.specs.declared.fixed.FixedList.{FixedList}

-- A part with another window.
abbrev pub rewindowed : Part → ℕ → Part
rewindowed p w = record { task = p.task; processor = p.processor; cost = p.cost; window = w }

-- Past the last part no window is changed.
pub with_window_past : (ps : List Part) (k w : ℕ) → length ps ≤ k → with_window ps k w ≡ ps
with_window_past [] k w h = refl
with_window_past (p ∷ ps) zero w h = absurd (omega arith)
with_window_past (p ∷ ps) (suc k) w h = ap (λ (x : List Part). p ∷ x) (with_window_past ps k w (omega arith))

-- Another window for a part is that part with the window in its place.
pub with_window_set : (ps : List Part) (k w : ℕ) (p : Part) → k < length ps → p ≡ get_or ps k p → set ps k (rewindowed p w) ≡ with_window ps k w
with_window_set [] k w p h e = absurd (omega arith)
with_window_set (q ∷ ps) zero w p h e = ap (λ (x : Part). rewindowed x w ∷ ps) e
with_window_set (q ∷ ps) (suc k) w p h e = ap (λ (x : List Part). q ∷ x) (with_window_set ps k w p (omega arith) e)

-- A list has as many elements as it counts.
pub listed_length : {T : Type 0} {N : ℕ} (l : FixedList T N) → length (elements l) ≡ l.count
listed_length l = length-take-le l.count l.items (omega (arith, l.few, l.sized))
