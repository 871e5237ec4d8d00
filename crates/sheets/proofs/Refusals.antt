-- What an answer's definition says of its refusal.
use Rattle.std.proofs.Common.{◌≡◌, List, Some, Ok, Err, Result, sym, ap, ◌∙◌}
use Rattle.std.specs.Option as options
use Rattle.schedule.specs.declared.Part.{Part}
use Rattle.sheet.specs.declared.fault.Refusal.{Refusal}
use Rattle.sheet.specs.declared.fault.SheetFault.{SheetFault}
use Rattle.parts.specs.declared.fault.PlanFault.{PlanFault}
use Rattle.parts.specs.declared.lists.Proposal.{Proposal}
use Rattle.tasks.specs.Faults as Sets
use Rattle.parts.specs.Faults as Plans
use Rattle.sheets.specs.declared.TaskSheet.{TaskSheet}
use Rattle.sheets.specs.Answers.{ReadBoth}
use Rattle.sheets.specs.Grammar.{Tasks}
use Rattle.sheets.specs.Refusals.{refusal_in, then_set}

pub refusal_of_both : (R : Result (Tasks × List Part) SheetFault) (r : Result (TaskSheet × Proposal) PlanFault) → ReadBoth R r → refusal_in Plans.shown r ≡ then_set (λ b. b.0) R
refusal_of_both (Ok b) (Ok s) h = ap (options.option_map Sets.shown) (sym h.0.0.0)
refusal_of_both (Ok b) (Err f) h = ap (λ (g : PlanFault). Some (Plans.shown g)) h.1 ∙ ap (options.option_map Sets.shown) (sym h.2)
refusal_of_both (Err e) r h = ap (refusal_in Plans.shown) h

pub same_refusal : {A E : Type 0} (shown : E → Refusal) (r R : Result A E) → r ≡ R → refusal_in shown r ≡ refusal_in shown R
same_refusal shown r R h = ap (refusal_in shown) h
