-- What is told of a directory from which no name went is so of it as the view shows it.
use Rattle.std.proofs.Common.{◌≡◌, ℕ, Bool, true, false, true≢false, List, [], refl, sym, ap, subst, arith, length}
use Rattle.gfs2_layout.specs.Holding.{Holding}
use Rattle.glock_names.specs.Views.{Seen}
use Rattle.glock_names.specs.declared.steps.Missing.{Missing}
use Rattle.move_ends.specs.Shown as dirs
use Rattle.name_moves.specs.Inserting.{IsNeededForName, IsWrongForName}
use Rattle.name_moves.specs.Becoming.{CanTell, IsAfter, LosesAll, losses}
use Rattle.name_moves.specs.Moving.{GoesThere, IsNeededThere, IsWrongThere, Move, is_replacing, is_within, lost_there}

same_if_none : (names : List (List ℕ)) (h k : Holding) → LosesAll names h k → names ≡ [] → h ≡ k
same_if_none _ _ _ (LosesAll.of_none h) e = refl
same_if_none _ _ _ (LosesAll.of_one name names h k g first later) e = absurd (omega (arith, ap length e))

pub after_none : (v : Seen) (dir : ℕ) (P : Holding → Type 0) → IsAfter v dir [] P → (h : Holding) → dirs.IsShown v dir h → P h
after_none v dir P after h shown =
    let so = after h shown (CanTell.none_went refl) in
    subst P (sym (same_if_none [] h so.0 so.1 refl)) so.2

some_first : (replaces within : Bool) (name new_name : List ℕ) → replaces ≡ true → losses replaces within name new_name ≡ [] → ⊥
some_first true within name new_name is none = omega (arith, ap length none)
some_first false within name new_name is none = true≢false (sym is)

-- where something is replaced a name goes
pub some_lost : (m : Move) → is_replacing m ≡ true → lost_there m ≡ [] → ⊥
some_lost m is none = some_first (is_replacing m) (is_within m) m.name m.new_name is none

some_second : (replaces within : Bool) (name new_name : List ℕ) → within ≡ true → losses replaces within name new_name ≡ [] → ⊥
some_second true within name new_name is none = omega (arith, ap length none)
some_second false true name new_name is none = omega (arith, ap length none)
some_second false false name new_name is none = true≢false (sym is)

-- where names go there are some
some_goes : (m : Move) (before : List (List ℕ)) (name : List ℕ) → GoesThere m before name → lost_there m ≡ [] → ⊥
some_goes m _ _ (GoesThere.new_first replaces) none = some_lost m replaces none
some_goes m _ _ (GoesThere.old_first stays within) none = some_second (is_replacing m) (is_within m) m.name m.new_name within none
some_goes m _ _ (GoesThere.old_then replaces within) none = some_lost m replaces none

-- where none goes, what is seen, needed or wrong as the blocks are counted is so on the way to the new name as that is
module _ (v : Seen) (m : Move) (none : lost_there m ≡ []) where
  pub as_it_is : (P : Holding → Type 0) → IsAfter v m.to.inode (lost_there m) P → (h : Holding) → dirs.IsShown v m.to.inode h → P h
  as_it_is P after = after_none v m.to.inode P (subst (λ names. IsAfter v m.to.inode names P) none after)

  pub needed_now : (n : Missing) → IsNeededThere v m n → (h : Holding) → dirs.IsShown v m.to.inode h → IsNeededForName v h m.new_name n
  needed_now n (IsNeededThere.to_go before name under goes after) = absurd (some_goes m before name goes none)
  needed_now n (IsNeededThere.to_come under after) = as_it_is (λ k. IsNeededForName v k m.new_name n) after

  pub wrong_now : (rule b : ℕ) → IsWrongThere v m rule b → (h : Holding) → dirs.IsShown v m.to.inode h → IsWrongForName v h rule b
  wrong_now _ _ (IsWrongThere.to_go rule b before name goes after) = absurd (some_goes m before name goes none)
  wrong_now _ _ (IsWrongThere.to_come rule b after) = as_it_is (λ k. IsWrongForName v k rule b) after
