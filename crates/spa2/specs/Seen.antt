-- The planner's memory as a state.
use Rattle.parts.specs.Parts.{parts_of}
use Rattle.spa2.specs.declared.state.Planner.{Planner}
use Rattle.front.specs.Fronts.{listed}
use Rattle.spa2.specs.Placing.{State}

abbrev pub seen : Planner → State
seen p = record { processors = p.processors.now; pieces = listed p.pieces; reserve = listed p.reserve; parts = parts_of p.parts }
