use Rattle.std.proofs.Common.{◌≡◌, ◌*◌, ◌≤◌, take}
use Rattle.schedule.specs.Layout.{span_of, work_of}
use Rattle.parts.specs.Parts.{parts_of}
use Rattle.plan.proofs.numbers.sums.Given as goal

-- The sums so far, and that they are far from wrapping.
abbrev pub invariant-loop-part : goal.invariant-loop-part
invariant-loop-part l = record {
  listed : l.part-items ≡ parts_of l.list;
  cost : l.sums.cost ≡ work_of (take l.part-index l.part-items) l.task;
  window : l.sums.window ≡ span_of (take l.part-index l.part-items) l.task;
  low_cost : l.sums.cost ≤ 4294967296 * l.part-index;
  low_window : l.sums.window ≤ 4294967296 * l.part-index;
}
