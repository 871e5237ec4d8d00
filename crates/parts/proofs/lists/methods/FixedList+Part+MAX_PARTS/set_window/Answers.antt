use Rattle.std.proofs.Common.{◌∙◌, sym}
use Rattle.parts.proofs.Listing.{with_window_past, with_window_set}
use Rattle.parts.proofs.lists.methods.FixedList+Part+MAX_PARTS.set_window.Goals as goal

pub returns-in-Some : goal.returns-in-Some
returns-in-Some c = c.replace.ensures ∙ rw c.as_slice.ensures at (with_window_set c.as_slice.result.now _ c.args.window _ c.in-Some.ensures.lookup.3.0 c.in-Some.ensures.lookup.1)

pub returns-in_default : goal.returns-in_default
returns-in_default c = sym (rw c.as_slice.ensures at (with_window_past c.as_slice.result.now _ c.args.window c.in_default.ensures.lookup.3))
