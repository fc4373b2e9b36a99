-- The numbers of a node's calls in a history.
use Rattle.std.proofs.Common.{◌≡◌, ℕ, zero, suc, ◌+◌, ◌<◌, ◌≤◌, ◌⊎◌, ◌≢◌, List, [], ◌∷◌, take, None, Some, refl, sym, ap, ◌∙◌, arith, inl, inr}
use Rattle.std.specs.Prelude.{◌==◌, if◌then◌else◌, slice_get}
use Rattle.std.proofs.lemmas.Bool.{cases_eq, cases_lt, cond-true, cond-false, eq-eqb, ne_eqb}
use Rattle.cluster_history.specs.History.{IsNumbered, calls_of}
use Rattle.cluster_history.specs.declared.Item.{Item}
use Rattle.cluster_history.specs.declared.Item.TheVariants as item
use Rattle.file_tree.specs.declared.call.Call.{Call}
use Rattle.file_tree.specs.declared.reply.Reply.{Reply}

-- ---- items

pub none_there : (x : Item) → ◌≡◌ {A = _} None (Some x) → ⊥
none_there x e = cc

some_same : {x y : Item} → Some x ≡ Some y → x ≡ y
some_same e = cc

pub no_call : (i kept node client number : ℕ) (call : Call) (reply : Reply) → Some (item.Lost i kept) ≡ Some (item.Call node client number call reply) → ⊥
no_call i kept node client number call reply e = (let same : item.Lost i kept ≡ item.Call node client number call reply = some_same e in cc)

-- two calls are one
pub record AreOneCall (i node client other number its : ℕ) (call call' : Call) (reply reply' : Reply) : Type 0 where
  pub node_is : i ≡ node
  pub client_is : client ≡ other
  pub number_is : number ≡ its
  pub call_is : call ≡ call'
  pub reply_is : reply ≡ reply'

pub one_call : (i node client other number its : ℕ) (call call' : Call) (reply reply' : Reply) → Some (item.Call i client number call reply) ≡ Some (item.Call node other its call' reply')
    → AreOneCall i node client other number its call call' reply reply'
one_call i node client other number its call call' reply reply' e = by (some_same e)
  where
    by : item.Call i client number call reply ≡ item.Call node other its call' reply' → AreOneCall i node client other number its call call' reply reply'
    by e = record { node_is = cc; client_is = cc; number_is = cc; call_is = cc; reply_is = cc }

-- ---- a call of each number that the node has

pub record HasCall (history : List Item) (node number : ℕ) : Type 0 where
  pub place : ℕ
  pub client : ℕ
  pub its : ℕ
  pub call : Call
  pub reply : Reply
  pub there : slice_get history place ≡ Some (item.Call node client its call reply)
  pub before : calls_of node (take place history) ≡ number

later : (x : Item) (xs : List Item) (node number m : ℕ) (had : HasCall xs node m) → calls_of node (x ∷ []) + m ≡ number → HasCall (x ∷ xs) node number
later (item.Call i client n call reply) xs node number m had e =
    record { place = suc had.place; client = had.client; its = had.its; call = had.call; reply = had.reply; there = had.there; before = ap (λ k. (if i == node then 1 else 0) + k) had.before ∙ omega (arith, e) }
later (item.Lost i kept) xs node number m had e = record { place = suc had.place; client = had.client; its = had.its; call = had.call; reply = had.reply; there = had.there; before = had.before ∙ omega (arith, e) }

pub call_there : (history : List Item) (node m : ℕ) → m < calls_of node history → HasCall history node m
call_there [] node m less = absurd (omega (arith, less))
call_there (item.Lost i kept ∷ xs) node m less = later (item.Lost i kept) xs node m m (call_there xs node m less) (omega arith)
call_there (item.Call i client n call reply ∷ xs) node m less = elim (cases_eq i node) [
  | inr other ↦
      let none = cond-false {A = ℕ} (i == node) 1 0 (ne_eqb i node other) in
      later (item.Call i client n call reply) xs node m m (call_there xs node m (omega (arith, none, less))) (omega (arith, none))
  | inl same ↦ own same (cond-true {A = ℕ} (i == node) 1 0 (eq-eqb i node same)) m less (λ k low. call_there xs node k low)
]
  where
    own : i ≡ node → ◌≡◌ {A = ℕ} (if i == node then 1 else 0) 1 → (m : ℕ) → m < (if i == node then 1 else 0) + calls_of node xs → ((k : ℕ) → k < calls_of node xs → HasCall xs node k)
        → HasCall (item.Call i client n call reply ∷ xs) node m
    own same one zero less behind = record { place = 0; client = client; its = n; call = call; reply = reply; there = ap (λ j. Some (item.Call j client n call reply)) same; before = refl }
    own same one (suc k) less behind = later (item.Call i client n call reply) xs node (suc k) k (behind k (omega (arith, one, less))) (omega (arith, one))

-- ---- how many come before it

-- before a later place there is one more
pub calls_between : (history : List Item) (node p q client number : ℕ) (call : Call) (reply : Reply) → p < q → slice_get history p ≡ Some (item.Call node client number call reply)
    → calls_of node (take p history) + 1 ≤ calls_of node (take q history)
calls_between [] node p q client number call reply less there = absurd (none_there (item.Call node client number call reply) there)
calls_between (x ∷ xs) node p zero client number call reply less there = absurd (omega (arith, less))
calls_between (item.Lost i kept ∷ xs) node zero (suc q) client number call reply less there = absurd (no_call i kept node client number call reply there)
calls_between (item.Call i other its call' reply' ∷ xs) node zero (suc q) client number call reply less there =
    let same = one_call i node other client its number call' call reply' reply there in
    let one = cond-true {A = ℕ} (i == node) 1 0 (eq-eqb i node same.node_is) in
    omega (arith, one)
calls_between (item.Lost i kept ∷ xs) node (suc p) (suc q) client number call reply less there = calls_between xs node p q client number call reply (omega (arith, less)) there
calls_between (item.Call i other its call' reply' ∷ xs) node (suc p) (suc q) client number call reply less there =
    let rest = calls_between xs node p q client number call reply (omega (arith, less)) there in
    omega (arith, rest)

-- and so there is in all
pub calls_before : (history : List Item) (node p client number : ℕ) (call : Call) (reply : Reply) → slice_get history p ≡ Some (item.Call node client number call reply)
    → calls_of node (take p history) + 1 ≤ calls_of node history
calls_before [] node p client number call reply there = absurd (none_there (item.Call node client number call reply) there)
calls_before (item.Lost i kept ∷ xs) node zero client number call reply there = absurd (no_call i kept node client number call reply there)
calls_before (item.Call i other its call' reply' ∷ xs) node zero client number call reply there =
    let same = one_call i node other client its number call' call reply' reply there in
    let one = cond-true {A = ℕ} (i == node) 1 0 (eq-eqb i node same.node_is) in
    omega (arith, one)
calls_before (item.Lost i kept ∷ xs) node (suc p) client number call reply there = calls_before xs node p client number call reply there
calls_before (item.Call i other its call' reply' ∷ xs) node (suc p) client number call reply there =
    let rest = calls_before xs node p client number call reply there in
    omega (arith, rest)

-- ---- in a history whose calls are numbered

module _ (history : List Item) (numbered : IsNumbered history) (node : ℕ) where
  -- no number is above that of the last call
  pub number_low : (p client number : ℕ) (call : Call) (reply : Reply) → slice_get history p ≡ Some (item.Call node client number call reply) → (1 ≤ number) × (number ≤ calls_of node history)
  number_low p client number call reply there =
      let is = numbered p node client number call reply there in
      let less = calls_before history node p client number call reply there in
      (omega (arith, is), omega (arith, is, less))

  -- a call of a lower number comes before
  pub place_low : (p q client other number its : ℕ) (call call' : Call) (reply reply' : Reply) → slice_get history p ≡ Some (item.Call node client number call reply)
      → slice_get history q ≡ Some (item.Call node other its call' reply') → number < its → p < q
  place_low p q client other number its call call' reply reply' there there' less = elim (cases_lt p q) [
    | inl low ↦ low
    | inr high ↦ absurd (by high (cases_eq p q))
  ]
    where
      first : number ≡ calls_of node (take p history) + 1
      first = numbered p node client number call reply there

      second : its ≡ calls_of node (take q history) + 1
      second = numbered q node other its call' reply' there'

      by : q ≤ p → (p ≡ q) ⊎ (p ≢ q) → ⊥
      by high (inl same) = let one = ap (λ n. calls_of node (take n history)) same in omega (arith, first, second, one, less)
      by high (inr apart) = let more = calls_between history node q p other its call' reply' (omega (arith, high, apart)) there' in omega (arith, first, second, more, less)

  -- a call of the same number is the same
  pub same_place : (p q client other number its : ℕ) (call call' : Call) (reply reply' : Reply) → slice_get history p ≡ Some (item.Call node client number call reply)
      → slice_get history q ≡ Some (item.Call node other its call' reply') → number ≡ its → p ≡ q
  same_place p q client other number its call call' reply reply' there there' same = elim (cases_lt p q) [
    | inl low ↦ absurd (apart p q client other number its call call' reply reply' there there' same low)
    | inr not ↦ elim (cases_lt q p) [
      | inl low ↦ absurd (apart q p other client its number call' call reply' reply there' there (sym same) low)
      | inr not' ↦ omega (arith, not, not')
    ]
  ]
    where
      apart : (p q client other number its : ℕ) (call call' : Call) (reply reply' : Reply) → slice_get history p ≡ Some (item.Call node client number call reply)
          → slice_get history q ≡ Some (item.Call node other its call' reply') → number ≡ its → p < q → ⊥
      apart p q client other number its call call' reply reply' there there' same low =
          let first = numbered p node client number call reply there in
          let second = numbered q node other its call' reply' there' in
          let more = calls_between history node p q client number call reply low there in
          omega (arith, first, second, more, same)
