use Rattle.std.proofs.Common.{refl, rules}
use Rattle.std.specs.Fn.{FnOnceReturnsAtMut}
use Rattle.sheets.proofs.Whole.{one_run, closed_here, not_closed_here}
use Rattle.sheets.proofs.reading.read_whole.Goals as goal

pub returns-in_err-value : goal.returns-in_err-value
returns-in_err-value g c =
    let ran : FnOnceReturnsAtMut g.F.FnOnce c.args.lines c.new-cursor.result c.lines.result c.lines.new.arg2 = record { shown = _; shows = refl; left = _; met = c.lines.ensures; leaves = refl } in
    one_run (FnOnceReturnsAtMut g.F.FnOnce c.args.lines) c.args.bytes.now _ c.new-cursor.result c.lines.new.arg2 c.lines.result _
    c.in_ok-length_of.ensures c.new-cursor.ensures.place c.new-cursor.ensures.bytes ran (search rules)

pub returns-in_err-end : goal.returns-in_err-end
returns-in_err-end g c =
    let ran : FnOnceReturnsAtMut g.F.FnOnce c.args.lines c.new-cursor.result c.lines.result c.lines.new.arg2 = record { shown = _; shows = refl; left = _; met = c.lines.ensures; leaves = refl } in
    one_run (FnOnceReturnsAtMut g.F.FnOnce c.args.lines) c.args.bytes.now _ c.new-cursor.result c.lines.new.arg2 c.lines.result _
    c.in_ok-length_of.ensures c.new-cursor.ensures.place c.new-cursor.ensures.bytes ran (search (rules, not_closed_here))

pub returns : goal.returns
returns g c =
    let ran : FnOnceReturnsAtMut g.F.FnOnce c.args.lines c.new-cursor.result c.lines.result c.lines.new.arg2 = record { shown = _; shows = refl; left = _; met = c.lines.ensures; leaves = refl } in
    one_run (FnOnceReturnsAtMut g.F.FnOnce c.args.lines) c.args.bytes.now _ c.new-cursor.result c.lines.new.arg2 c.lines.result _
    c.in_ok-length_of.ensures c.new-cursor.ensures.place c.new-cursor.ensures.bytes ran (search (rules, closed_here))
