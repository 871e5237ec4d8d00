-- The windows of placed parts.
use Rattle.std.specs.Prelude.{ℕ, ◌-◌, Bool, cond, List, [], ◌∷◌, ◌++◌, length, Some, None, Ok, Err, Option, Result, ◌==◌, nat_le}
use Rattle.std.specs.Bool.{then_some}
use Rattle.std.specs.List.{list_any}
use Rattle.schedule.specs.declared.Part.{Part}
use Rattle.schedule.specs.Layout.{span_of}
use Rattle.parts.specs.declared.fault.PlanFault.{PlanFault}
use Rattle.parts.specs.declared.fault.PlanFault.TheVariants.{Squeezed}
use Rattle.spa2.specs.Placing.{Tasks}

-- Some part of the list is one of task i.
abbrev pub has_part : ℕ → List Part → Bool
has_part i ps = list_any (λ p. p.task == i) ps

-- A part with another window.
abbrev pub with_own_window : Part → ℕ → Part
with_own_window p w = record p { window = w }

-- The same window, if it is 1 or more.
abbrev pub one_or_more : Option ℕ → Option ℕ
one_or_more None = None
one_or_more (Some w) = then_some (nat_le 1 w) w

-- The window of part p, with the parts before it, which have theirs, and those after it: where another part of its task follows, its
-- response time up to the period, else what the windows of its task's parts before it leave of the period. There is none below 1.
abbrev pub window_of : Tasks → (Part → ℕ → Option ℕ) → List Part → Part → List Part → Option ℕ
window_of t respond done p rest =
    one_or_more (cond (has_part p.task rest) (respond p (t.period p.task)) (Some (t.period p.task - span_of done p.task)))

-- The parts with their windows, or the first part that has none.
abbrev pub windowed_from : Tasks → (Part → ℕ → Option ℕ) → List Part → List Part → Result (List Part) PlanFault
windowed_from t respond done [] = Ok done
windowed_from t respond done (p ∷ rest) =
    elim (window_of t respond done p rest) [
      | None ↦ Err (Squeezed (length done))
      | Some w ↦ windowed_from t respond (done ++ (with_own_window p w ∷ [])) rest
    ]

abbrev pub windowed : Tasks → (Part → ℕ → Option ℕ) → List Part → Result (List Part) PlanFault
windowed t respond ps = windowed_from t respond [] ps
