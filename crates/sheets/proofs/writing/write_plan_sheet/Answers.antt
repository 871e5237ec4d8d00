use Rattle.std.proofs.Common.{◌≡◌, ◌-◌, ◌≤◌, List, length, None, Ok, sym, ap, ◌∙◌, arith}
use borrow.Rule.Slice.PartMut.{post_of}
use Rattle.std.proofs.lemmas.Bool.{not-false}
use Rattle.schedule.specs.declared.Part.{Part}
use Rattle.parts.specs.declared.lists.Proposal.{Proposal}
use Rattle.parts.specs.Parts.{plan_of}
use Rattle.tasks.specs.Searches.{first_where}
use Rattle.sheets.specs.Laws.{Sheetable}
use Rattle.parts.proofs.Listing.{listed_length}
use Rattle.tasks.proofs.Searches.{none_where}
use Rattle.sheets.specs.Texts.{unwritable}
use Rattle.sheets.proofs.PlanSheets.{read_back, different_sheets}
use Rattle.sheets.proofs.writing.write_plan_sheet.Goals as goal

-- The proposal has 1 to 64 parts.
counted : (p : Proposal) → (1 ≤ length (plan_of p)) × (length (plan_of p) ≤ 64)
counted p = let e = listed_length p.list in (omega (arith, p.some), omega (arith, p.list.few))

-- Where none is unwritable, a sheet can hold the plan.
holdable : (p : Proposal) (ps : List Part) → ps ≡ plan_of p → None ≡ first_where (unwritable ps) (length ps) → Sheetable ps
holdable p ps e h =
    let n = counted p in
    record {
      some = omega (arith, n.0, ap length e);
      few = omega (arith, n.1, ap length e);
      each = λ i l. not-false _ (none_where (unwritable ps) (length ps) (sym h) i l);
    }

pub of_plan-text-requires : goal.of_plan-text-requires
of_plan-text-requires c =
    let s = holdable c.args.plan.now c.parts-parts.result.now c.parts-parts.ensures c.in_default.ensures in
    record { each = s.each; few = s.few }

pub returns-in-Some-clause-different : goal.returns-in-Some-clause-different
returns-in-Some-clause-different c = different_sheets

pub returns-then-out-needed-clause-different : goal.returns-then-out-needed-clause-different
returns-then-out-needed-clause-different c = different_sheets

pub returns-clause-read_back : goal.returns-clause-read_back
returns-clause-read_back c =
    read_back c.parts-parts.result.now c.as_slice-bytes.result.now c.copy_from_slice.new.self (post_of 0 (length c.as_slice-bytes.result.now - 0) c.args.out.now)
    (holdable c.args.plan.now c.parts-parts.result.now c.parts-parts.ensures c.in_default.ensures)
    (c.as_slice-bytes.ensures ∙ c.of_plan-text.ensures) c.copy_from_slice.ensures.after
    ∙ ap Ok c.parts-parts.ensures

pub returns-clause-different : goal.returns-clause-different
returns-clause-different c = different_sheets
