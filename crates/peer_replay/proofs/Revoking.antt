-- The revokes of transactions, gathered one by one.
use Rattle.std.proofs.Common.{◌≡◌, ℕ, Bool, true, false, List, [], ◌∷◌, ◌++◌, refl, sym, ap, ◌∙◌}
use Rattle.std.specs.Prelude.{◌==◌, ◌&&◌, ◌||◌, nat_lt, map}
use Rattle.std.specs.List.{list_any}
use Rattle.log_layout.specs.Live.{is_cancelled}
use Rattle.journal_scan.specs.Said.{says_at}
use Rattle.journal_scan.specs.declared.scanning.Sequenced.{Sequenced as Held}
use Rattle.revoke_table.specs.Revokes.{Greatest, all_revoked}
use Rattle.revoke_table.specs.Revokes.{is_cancelled as is_cancelled_by}
use Rattle.peer_replay.specs.Plans.{revokes_onto}

pub onto_more : (s : ℕ) (bs : List ℕ) (b : ℕ) (rs : List (ℕ × ℕ)) → revokes_onto s (bs ++ b ∷ []) rs ≡ (b, s) ∷ revokes_onto s bs rs
onto_more s [] b rs = refl
onto_more s (x ∷ bs) b rs = onto_more s bs b ((x, s) ∷ rs)

-- those of transactions, the last first
abbrev pub gathered : List Held → List (ℕ × ℕ) → List (ℕ × ℕ)
gathered [] rs = rs
gathered (t ∷ ts) rs = gathered ts (revokes_onto t.sequence t.transaction.revokes.items rs)

pub gathered_more : (ts : List Held) (t : Held) (rs : List (ℕ × ℕ)) → gathered (ts ++ t ∷ []) rs ≡ revokes_onto t.sequence t.transaction.revokes.items (gathered ts rs)
gathered_more [] t rs = refl
gathered_more (x ∷ ts) t rs = gathered_more ts t (revokes_onto x.sequence x.transaction.revokes.items rs)

module _ (b s : ℕ) where
  abbrev names : (ℕ × ℕ) → Bool
  names r = (r.0 == b) && nat_lt s r.1

  swap_in : (x t a : Bool) → ((x && t) || a) ≡ (a || (t && x))
  swap_in true true true = refl
  swap_in true true false = refl
  swap_in true false true = refl
  swap_in true false false = refl
  swap_in false true true = refl
  swap_in false true false = refl
  swap_in false false true = refl
  swap_in false false false = refl

  regroup : (a x t y : Bool) → ((a || (t && x)) || (t && y)) ≡ (a || (t && (x || y)))
  regroup true x t y = refl
  regroup false true true y = refl
  regroup false false true y = refl
  regroup false x false y = refl

  none_named : (a t : Bool) → (a || (t && false)) ≡ a
  none_named true t = refl
  none_named false true = refl
  none_named false false = refl

  any_onto : (q : ℕ) (bs : List ℕ) (rs : List (ℕ × ℕ)) → list_any names (revokes_onto q bs rs) ≡ (list_any names rs || (nat_lt s q && list_any (λ r. r == b) bs))
  any_onto q [] rs = sym (none_named (list_any names rs) (nat_lt s q))
  any_onto q (x ∷ bs) rs =
      any_onto q bs ((x, q) ∷ rs)
      ∙ ap (λ c. c || (nat_lt s q && list_any (λ r. r == b) bs)) (swap_in (x == b) (nat_lt s q) (list_any names rs))
      ∙ regroup (list_any names rs) (x == b) (nat_lt s q) (list_any (λ r. r == b) bs)

  or_assoc : (x y z : Bool) → ((x || y) || z) ≡ (x || (y || z))
  or_assoc true y z = refl
  or_assoc false y z = refl

  any_gathered : (ts : List Held) (rs : List (ℕ × ℕ)) → list_any names (gathered ts rs) ≡ (list_any names rs || is_cancelled (map says_at ts) b s)
  any_gathered [] rs = sym (or_false (list_any names rs))
    where
      or_false : (a : Bool) → (a || false) ≡ a
      or_false true = refl
      or_false false = refl
  any_gathered (t ∷ ts) rs =
      any_gathered ts (revokes_onto t.sequence t.transaction.revokes.items rs)
      ∙ ap (λ c. c || is_cancelled (map says_at ts) b s) (any_onto t.sequence t.transaction.revokes.items rs)
      ∙ or_assoc (list_any names rs) (nat_lt s t.sequence && list_any (λ r. r == b) t.transaction.revokes.items) (is_cancelled (map says_at ts) b s)

  pub cancelled : (law : (rs : List (ℕ × ℕ)) → is_cancelled_by (all_revoked rs) b s ≡ list_any names rs) (table : Greatest) (ts : List Held) → table ≡ all_revoked (gathered ts [])
      → is_cancelled_by table b s ≡ is_cancelled (map says_at ts) b s
  cancelled law table ts is = ap (λ (g : Greatest). is_cancelled_by g b s) is ∙ law (gathered ts []) ∙ any_gathered ts []
