use Rattle.std.proofs.Common.{◌≡◌, drop, length}
use Rattle.parts.specs.Fixed.{elements}
use Rattle.sheets.specs.Grammar.{items, after}
use Rattle.sheets.proofs.lines.items.read_items.Given as goal

-- The items so far, and then what the rest of the limits gives at the cursor.
abbrev pub invariant-loop-i : goal.invariant-loop-i
invariant-loop-i g l =
    (items g.T.Item.item l.limits l.initial.cursor.at l.initial.cursor.rest.now
    ≡ after (elements l.list) (items g.T.Item.item (drop l.i l.limits) l.cursor.at l.cursor.rest.now))
    × (length (elements l.list) ≡ l.i)
