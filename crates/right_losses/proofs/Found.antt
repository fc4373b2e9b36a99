-- The one right loss.
use Rattle.std.proofs.Common.{◌≡◌, ℕ, zero, suc, ◌+◌, ◌-◌, ◌<◌, ◌≤◌, Bool, true, false, List, [], ◌∷◌, Option, None, Some, refl, sym, ap, subst, ◌∙◌, arith, inl, inr}
use Rattle.std.specs.Prelude.{◌==◌, ◌&&◌, nat_lt, slice_get}
use Rattle.std.proofs.lemmas.Bool.{cases_Bool, cases_lt, cond-true, cond-false}
use Rattle.std.proofs.lemmas.Bool.Decides.{nat_tests}
use Rattle.cluster_history.specs.Changes.{Changes}
use Rattle.cluster_history.specs.History.{IsNumbered, calls_of}
use Rattle.cluster_history.specs.Losses.{LossIsRight}
use Rattle.cluster_history.specs.declared.Item.{Item}
use Rattle.cluster_history.specs.declared.Item.TheVariants as item
use Rattle.file_tree.specs.declared.call.Call.{Call}
use Rattle.file_tree.specs.declared.reply.Reply.{Reply}
use Rattle.right_losses.specs.Kept.{before_change, kept_by, next_change}
use Rattle.right_losses.specs.Laws.{RightLossesAreFound, RightLossesAreOne}
use Rattle.right_losses.proofs.Numbers.{call_there, no_call, none_there, number_low, one_call, place_low, same_place}

-- ---- the test of a call

abbrev test : ℕ → ℕ → ℕ → ℕ → Bool → Bool
test node upto i number changes = (i == node) && (nat_lt upto number && changes)

record Passes (node upto i number : ℕ) (changes : Bool) : Type 0 where
  own : i ≡ node
  above : upto < number
  changes_so : changes ≡ true

passes : (node upto i number : ℕ) (changes : Bool) → test node upto i number changes ≡ true → Passes node upto i number changes
passes node upto i number changes is = record { own = grind (arith, nat_tests); above = grind (arith, nat_tests); changes_so = grind (arith, nat_tests) }

fails : (node upto i number : ℕ) (changes : Bool) → test node upto i number changes ≡ false → i ≡ node → upto < number → changes ≡ false
fails node upto i number changes is own above = grind (arith, nat_tests)

-- ---- what the first change is

-- it is a call of this history, and none before it that is above the number changes anything
pub record IsNext (node upto : ℕ) (history : List Item) (n : ℕ) : Type 0 where
  pub place : ℕ
  pub client : ℕ
  pub call : Call
  pub reply : Reply
  pub there : slice_get history place ≡ Some (item.Call node client n call reply)
  pub above : upto < n
  pub changes : Changes (record { call = call; reply = reply }) ≡ true
  pub before : (q other number : ℕ) (c : Call) (r : Reply) → q < place → slice_get history q ≡ Some (item.Call node other number c r) → upto < number → Changes (record { call = c; reply = r }) ≡ false

-- none of the node's calls above the number changes anything
abbrev pub NoneIsNext : ℕ → ℕ → List Item → Type 0
NoneIsNext node upto history = (q other number : ℕ) (c : Call) (r : Reply) → slice_get history q ≡ Some (item.Call node other number c r) → upto < number → Changes (record { call = c; reply = r }) ≡ false

some_number : {a b : ℕ} → Some a ≡ Some b → a ≡ b
some_number e = cc

no_number : {a : ℕ} → ◌≡◌ {A = Option ℕ} None (Some a) → ⊥
no_number e = cc

-- a call that fails the test doesn't change anything
quiet : (node upto i client number other its : ℕ) (call c : Call) (reply r : Reply) → test node upto i number (Changes (record { call = call; reply = reply })) ≡ false
    → Some (item.Call i client number call reply) ≡ Some (item.Call node other its c r) → upto < its → Changes (record { call = c; reply = r }) ≡ false
quiet node upto i client number other its call c reply r refused there above =
    let same = one_call i node client other number its call c reply r there in
    (λ k. Changes (record { call = sym same.call_is k; reply = sym same.reply_is k })) ∙ fails node upto i number (Changes (record { call = call; reply = reply })) refused same.node_is (subst (λ n. upto < n) (sym same.number_is) above)

behind : (node upto n : ℕ) (x : Item) (xs : List Item) → NoneIsNext node upto (x ∷ []) → IsNext node upto xs n → IsNext node upto (x ∷ xs) n
behind node upto n x xs first rest = record {
  place = suc rest.place;
  client = rest.client;
  call = rest.call;
  reply = rest.reply;
  there = rest.there;
  above = rest.above;
  changes = rest.changes;
  before = before;
}
  where
    before : (q other number : ℕ) (c : Call) (r : Reply) → q < suc rest.place → slice_get (x ∷ xs) q ≡ Some (item.Call node other number c r) → upto < number → Changes (record { call = c; reply = r }) ≡ false
    before zero other number c r low at above = first 0 other number c r at above
    before (suc q) other number c r low at above = rest.before q other number c r (omega (arith, low)) at above

lost_quiet : (node upto i kept : ℕ) → NoneIsNext node upto (item.Lost i kept ∷ [])
lost_quiet node upto i kept zero other number c r at above = absurd (no_call i kept node other number c r at)
lost_quiet node upto i kept (suc q) other number c r at above = absurd (none_there (item.Call node other number c r) at)

call_quiet : (node upto i client n : ℕ) (call : Call) (reply : Reply) → test node upto i n (Changes (record { call = call; reply = reply })) ≡ false → NoneIsNext node upto (item.Call i client n call reply ∷ [])
call_quiet node upto i client n call reply refused zero other number c r at above = quiet node upto i client n other number call c reply r refused at above
call_quiet node upto i client n call reply refused (suc q) other number c r at above = absurd (none_there (item.Call node other number c r) at)

pub next_is : (node upto n : ℕ) (history : List Item) → next_change node upto history ≡ Some n → IsNext node upto history n
next_is node upto n [] e = absurd (no_number e)
next_is node upto n (item.Lost i kept ∷ xs) e = behind node upto n (item.Lost i kept) xs (lost_quiet node upto i kept) (next_is node upto n xs e)
next_is node upto n (item.Call i client number call reply ∷ xs) e = elim (cases_Bool (test node upto i number (Changes (record { call = call; reply = reply })))) [
  | inr refused ↦
      behind node upto n (item.Call i client number call reply) xs (call_quiet node upto i client number call reply refused)
      (next_is node upto n xs (sym (cond-false _ (Some number) (next_change node upto xs) refused) ∙ e))
  | inl passed ↦
      let pass = passes node upto i number (Changes (record { call = call; reply = reply })) passed in
      let same : number ≡ n = some_number (sym (cond-true _ (Some number) (next_change node upto xs) passed) ∙ e) in
      record {
        place = 0;
        client = client;
        call = call;
        reply = reply;
        there = λ k. Some (item.Call (pass.own k) client (same k) call reply);
        above = subst (λ m. upto < m) same pass.above;
        changes = pass.changes_so;
        before = λ q other number c r low. absurd (omega (arith, low));
      }
]

none_behind : (node upto : ℕ) (x : Item) (xs : List Item) → NoneIsNext node upto (x ∷ []) → NoneIsNext node upto xs → NoneIsNext node upto (x ∷ xs)
none_behind node upto x xs first rest zero other number c r at above = first 0 other number c r at above
none_behind node upto x xs first rest (suc q) other number c r at above = rest q other number c r at above

pub none_is : (node upto : ℕ) (history : List Item) → next_change node upto history ≡ None → NoneIsNext node upto history
none_is node upto [] e = λ q other number c r at above. absurd (none_there (item.Call node other number c r) at)
none_is node upto (item.Lost i kept ∷ xs) e = none_behind node upto (item.Lost i kept) xs (lost_quiet node upto i kept) (none_is node upto xs e)
none_is node upto (item.Call i client number call reply ∷ xs) e = elim (cases_Bool (test node upto i number (Changes (record { call = call; reply = reply })))) [
  | inr refused ↦
      none_behind node upto (item.Call i client number call reply) xs (call_quiet node upto i client number call reply refused)
      (none_is node upto xs (sym (cond-false _ (Some number) (next_change node upto xs) refused) ∙ e))
  | inl passed ↦ absurd (no_number (sym e ∙ cond-true _ (Some number) (next_change node upto xs) passed))
]

-- ---- its loss is right

module _ (history : List Item) (node upto : ℕ) (numbered : IsNumbered history) (few : upto ≤ calls_of node history) where
  keeps_all : NoneIsNext node upto history → LossIsRight history node upto (calls_of node history)
  keeps_all none = record {
    order = few;
    below = omega arith;
    between = λ p client number call reply at above below. none p client number call reply at above;
    next = λ p client number call reply at is. absurd (let low = number_low history numbered node p client number call reply at in omega (arith, low.1, is));
  }

  keeps_before : (n : ℕ) → IsNext node upto history n → LossIsRight history node upto (n - 1)
  keeps_before n is = record {
    order = omega (arith, is.above);
    below = omega (arith, low.1);
    between = λ p client number call reply at above below. is.before p client number call reply
        (place_low history numbered node p is.place client is.client number n call is.call reply is.reply at is.there (omega (arith, below, is.above))) at above;
    next = λ p client number call reply at same.
        let one = same_place history numbered node p is.place client is.client number n call is.call reply is.reply at is.there (omega (arith, same, is.above)) in
        let it = one_call node node client is.client number n call is.call reply is.reply (sym at ∙ ap (slice_get history) one ∙ is.there) in
        (λ k. Changes (record { call = it.call_is k; reply = it.reply_is k })) ∙ is.changes;
  }
    where
      low : (1 ≤ n) × (n ≤ calls_of node history)
      low = number_low history numbered node is.place is.client n is.call is.reply is.there

  pub found : LossIsRight history node upto (kept_by node upto history)
  found = by (next_change node upto history) refl
    where
      by : (o : Option ℕ) → next_change node upto history ≡ o → LossIsRight history node upto (before_change o (calls_of node history))
      by None e = keeps_all (none_is node upto history e)
      by (Some n) e = keeps_before n (next_is node upto n history e)

pub right_losses_are_found : RightLossesAreFound
right_losses_are_found history node upto numbered few = found history node upto numbered few

-- ---- and no other

module _ (history : List Item) (node upto : ℕ) (numbered : IsNumbered history) where
  -- of two right losses none keeps less
  no_less : (kept k : ℕ) → LossIsRight history node upto kept → LossIsRight history node upto k → kept < k → ⊥
  no_less kept k one two less =
      let it = call_there history node kept (let b = two.below in omega (arith, less, b)) in
      let number : it.its ≡ kept + 1 = numbered it.place node it.client it.its it.call it.reply it.there ∙ (let b = it.before in omega (arith, b)) in
      let quiet = two.between it.place it.client it.its it.call it.reply it.there (let o = one.order in omega (arith, number, o)) (omega (arith, number, less)) in
      no_bool (sym (one.next it.place it.client it.its it.call it.reply it.there number) ∙ quiet)
    where
      no_bool : true ≡ false → ⊥
      no_bool e = cc

  pub one_loss : (kept k : ℕ) → LossIsRight history node upto kept → LossIsRight history node upto k → kept ≡ k
  one_loss kept k one two = elim (cases_lt kept k) [
    | inl low ↦ absurd (no_less kept k one two low)
    | inr not ↦ elim (cases_lt k kept) [
      | inl low ↦ absurd (no_less k kept two one low)
      | inr not' ↦ omega (arith, not, not')
    ]
  ]

pub right_losses_are_one : RightLossesAreOne
right_losses_are_one history node upto kept numbered right =
    one_loss history node upto numbered kept (kept_by node upto history) right
    (found history node upto numbered (let o = right.order in let b = right.below in omega (arith, o, b)))
