-- What a placed piece leaves, put together from what each step of the placing leaves.
use Rattle.std.proofs.Common.{◌≡◌, ℕ, ◌+◌, ◌-◌, ◌≤◌, min, ◌∷◌, set, ap, ◌∙◌, arith}
use Rattle.spa2.specs.declared.piece.Piece.{Piece}
use Rattle.spa2.specs.declared.state.Processor.{Processor}
use Rattle.spa2.specs.declared.state.Choice.{Choice}
use Rattle.spa2.specs.declared.state.Standing.TheVariants.{Full}
use Rattle.spa2.specs.Loads.{load_of}
use Rattle.spa2.specs.Placing.{Tasks, State, number_of, processor_at, cut_at, with_cut, split}

-- States with equal fields are equal.
pub state_path : {a b : State} → a.processors ≡ b.processors → a.pieces ≡ b.pieces → a.reserve ≡ b.reserve → a.parts ≡ b.parts → a ≡ b
state_path p q r s = λ i. record { processors = p i; pieces = q i; reserve = r i; parts = s i }

pub split_made : (t : Tasks) (s last : State) (x first rest : Piece) (c : Choice) (n cut load : ℕ) →
    n ≡ number_of c → cut ≡ cut_at t s x n → cut ≤ x.cost →
    first ≡ record { task = x.task; cost = min x.cost cut } → rest ≡ record { task = x.task; cost = x.cost - cut } →
    load ≡ load_of first.cost (t.period x.task) →
    last.processors ≡ set s.processors n (record { load = (processor_at s n).load + load; standing = Full }) →
    last.pieces ≡ rest ∷ s.pieces → last.reserve ≡ s.reserve → last.parts ≡ with_cut first.task n first.cost s.parts →
    last ≡ split t s x c
split_made t s last x first rest c n cut load en ec le ef er el hp hq hr hs =
    let at : cut ≡ cut_at t s x (number_of c) = ec ∙ ap (λ (k : ℕ). cut_at t s x k) en in
    let least : min x.cost cut ≡ cut = omega arith in
    let cost : first.cost ≡ cut_at t s x (number_of c) = ap (λ (y : Piece). y.cost) ef ∙ (least ∙ at) in
    let task : first.task ≡ x.task = ap (λ (y : Piece). y.task) ef in
    let full : ℕ → ℕ → Processor = λ k l. record { load = (processor_at s k).load + l; standing = Full } in
    let load' : load ≡ load_of (cut_at t s x (number_of c)) (t.period x.task) = el ∙ ap (λ (k : ℕ). load_of k (t.period x.task)) cost in
    state_path
    (hp ∙ (ap (λ (l : ℕ). set s.processors n (full n l)) load' ∙ ap (λ (k : ℕ). set s.processors k (full k (load_of (cut_at t s x (number_of c)) (t.period x.task)))) en))
    (hq ∙ ap (λ (y : Piece). y ∷ s.pieces) (er ∙ ap (λ (k : ℕ). record { task = x.task; cost = x.cost - k }) at))
    hr
    (hs ∙ (ap (λ (i : ℕ). with_cut i n first.cost s.parts) task ∙ (ap (λ (k : ℕ). with_cut x.task k first.cost s.parts) en ∙ ap (λ (k : ℕ). with_cut x.task (number_of c) k s.parts) cost)))
