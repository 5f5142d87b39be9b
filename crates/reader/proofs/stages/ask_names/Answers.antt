use Rattle.std.proofs.Common.{◌≡◌, ℕ, List, Result, ◌∙◌}
use Rattle.std.proofs.lemmas.Result.{err_from_is_err_and}
use Rattle.script.specs.Faults.{answer}
use Rattle.script.specs.declared.fault.Fault.{Fault}
use Rattle.script.specs.declared.row.Row.{Row}
use Rattle.script.specs.Roles.{declares_cell, those, first_row}
use Rattle.script.specs.Names.{names, undeclared, into_cell, out_of_range, no_row}
use Rattle.script.specs.Questions.{FirstNo}
use Rattle.reader.specs.Stages.{Named}
use Rattle.reader.proofs.Declared.{few_declared}
use Rattle.script.proofs.Answers.{taken, by_answer}
use Rattle.reader.proofs.Asked.{stop_7, stop_8, stop_9, stop_10, stop_11, all_names, all_cells, named}
use Rattle.reader.proofs.stages.ask_names.Goals as goal

pub returns-in_err-room : goal.returns-in_err-room
returns-in_err-room c =
    let p = err_from_is_err_and c.from_residual.result c.from_residual.ensures.1 in
    rw (p.1, p.2) (stop_7 c.args.text.now c.args.rows.now c.requires _ c.in_err-room.ensures)

pub once-requires : goal.once-requires
once-requires c = few_declared c.args.rows.now (taken 7 _ c.in_ok-room.ensures)

pub returns-in_err-once : goal.returns-in_err-once
returns-in_err-once c =
    let p = err_from_is_err_and c.from_residual-in_err-once.result c.from_residual-in_err-once.ensures.1 in
    rw (p.1, p.2) (stop_8 c.args.text.now c.args.rows.now c.requires c.in_ok-room.ensures _ c.in_err-once.ensures)

-- the answers of questions 9 and 10, said of the text and of all names and cells
known : (text t : List ℕ) (rs l : List Row) (r : Result (Unit {0}) Fault) → r ≡ answer 9 (first_row (undeclared t l) rs) → t ≡ text → l ≡ names rs → r ≡ answer 9 (first_row (undeclared text (names rs)) rs)
known text t rs l r e p q = e ∙ (λ i. answer 9 (first_row (undeclared (p i) (q i)) rs))

local : (text t : List ℕ) (rs l : List Row) (r : Result (Unit {0}) Fault) → r ≡ answer 10 (into_cell t l no_row rs) → t ≡ text → l ≡ those declares_cell rs → r ≡ answer 10 (into_cell text (those declares_cell rs) no_row rs)
local text t rs l r e p q = e ∙ (λ i. answer 10 (into_cell (p i) (q i) no_row rs))

pub returns-in_err-declared : goal.returns-in_err-declared
returns-in_err-declared c =
    let text = c.args.text.now in
    let rs = c.args.rows.now in
    let p = err_from_is_err_and c.from_residual-in_err-declared.result c.from_residual-in_err-declared.ensures.1 in
    let e₇ = c.in_ok-room.ensures in
    let e₉ = known text _ rs _ _ c.in_err-declared.ensures c.names_of.ensures.text (c.names_of.ensures.list ∙ all_names text rs c.requires e₇) in
    rw (p.1, p.2) (stop_9 text rs c.requires e₇ c.in_ok-once.ensures _ e₉)

pub returns-in_err-locals : goal.returns-in_err-locals
returns-in_err-locals c =
    let text = c.args.text.now in
    let rs = c.args.rows.now in
    let p = err_from_is_err_and c.from_residual-in_err-locals.result c.from_residual-in_err-locals.ensures.1 in
    let e₇ = c.in_ok-room.ensures in
    let e₉ = known text _ rs _ _ c.in_ok-declared.ensures c.names_of.ensures.text (c.names_of.ensures.list ∙ all_names text rs c.requires e₇) in
    let e₁₀ = local text _ rs _ _ c.in_err-locals.ensures c.cells_of.ensures.text (c.cells_of.ensures.list ∙ all_cells text rs c.requires e₇) in
    rw (p.1, p.2) (stop_10 text rs c.requires e₇ c.in_ok-once.ensures e₉ _ e₁₀)

pub returns : goal.returns
returns c =
    let text = c.args.text.now in
    let rs = c.args.rows.now in
    let e₇ = c.in_ok-room.ensures in
    let e₉ = known text _ rs _ _ c.in_ok-declared.ensures c.names_of.ensures.text (c.names_of.ensures.list ∙ all_names text rs c.requires e₇) in
    let e₁₀ = local text _ rs _ _ c.in_ok-locals.ensures c.cells_of.ensures.text (c.cells_of.ensures.list ∙ all_cells text rs c.requires e₇) in
    by_answer 11 (first_row out_of_range rs) c.ranges-2.result (Named text rs) (FirstNo text) c.ranges-2.ensures
    (named text rs c.requires e₇ c.in_ok-once.ensures e₉ e₁₀)
    (stop_11 text rs c.requires e₇ c.in_ok-once.ensures e₉ e₁₀)
