-- What stands in the way of a move, by what is told of one directory of it.
use Rattle.std.proofs.Common.{◌≡◌, ◌&&◌, ℕ, Bool, true, false, true≢false, List, [], ◌∷◌, Option, None, Some, Result, Ok, Err, refl, sym, ap, ap₂, subst}
use Rattle.std.proofs.lemmas.Bool.{ne_eqb}
use Rattle.std.specs.Prelude.{codes, if◌then◌else◌, is_some, not, option_map}
use Rattle.gfs2_layout.specs.Holding.{Holding}
use Rattle.gfs2_layout.specs.Structures.{is_directory}
use Rattle.glock_names.specs.Steps.{IfNeedBlock, TellsOf}
use Rattle.glock_names.specs.Views.{Seen}
use Rattle.glock_names.specs.declared.steps.CallFault.{CallFault}
use Rattle.glock_names.specs.declared.steps.Missing.{Missing}
use Rattle.glock_names.specs.declared.steps.Step.{Step}
use Rattle.glock_names.specs.declared.steps.Step.TheVariants.{Is, NeedBlock}
use Rattle.directories.specs.Shown.{IsBroken, IsNeededFor, IsShown}
use Rattle.directories.proofs.Counted.{equal}
use Rattle.name_drafts.proofs.WalkFaults.{tells_so}
use Rattle.name_moves.specs.Becoming.{IsAfter, losses}
use Rattle.name_moves.specs.Moving.{GoesThere, IsAskedUnder, IsNeededIn, IsNeededThere, IsOneOf, IsWrongIn, IsWrongThere, Move, is_reparented, is_replacing, is_within, lost_there, new_first, old_first, old_then, the_new, the_old, the_old_then, the_parent}
use Rattle.name_moves.specs.Moving as moving
use Rattle.name_moves.proofs.After.{after_none, none_broken}

module _ (v : Seen) (m : Move) where
  pub broken_after : (dir : ℕ) (names : List (List ℕ)) (name : List ℕ) (blocks : List ℕ) (f : CallFault) → IsOneOf m dir names name
      → TellsOf (λ rule b. IsAfter v dir names (λ k. IsBroken v k rule b)) f → TellsOf (IsWrongIn v m blocks) f
  broken_after dir names name blocks f one tells = tells_so (λ rule b. IsAfter v dir names (λ k. IsBroken v k rule b)) (IsWrongIn v m blocks) (λ rule b is. moving.IsWrongIn.to_go dir rule b names name one is) f tells

  -- of the directory that has the old name, as the view shows it
  pub broken_old : (blocks : List ℕ) (f : CallFault) → ((h : Holding) → IsShown v m.from h → TellsOf (IsBroken v h) f) → TellsOf (IsWrongIn v m blocks) f
  broken_old blocks f tells = broken_after m.from [] m.name blocks f the_old (none_broken v m.from f tells)

  pub needed_old : (blocks : List ℕ) (n : Missing) → IsAskedUnder v m.from n → ((h : Holding) → IsShown v m.from h → IsNeededFor v h m.name n) → IsNeededIn v m blocks n
  needed_old blocks n under needed = moving.IsNeededIn.to_go m.from [] m.name under the_old (after_none v m.from (λ k. IsNeededFor v k m.name n) needed)

  -- of the inode
  pub broken_parent : is_reparented m ≡ true → (blocks : List ℕ) (f : CallFault) → ((h : Holding) → IsShown v m.moved.inode h → TellsOf (IsBroken v h) f) → TellsOf (IsWrongIn v m blocks) f
  broken_parent moves blocks f tells = broken_after m.moved.inode [] (codes "..") blocks f (the_parent moves) (none_broken v m.moved.inode f tells)

  pub needed_parent : is_reparented m ≡ true → (blocks : List ℕ) (n : Missing) → IsAskedUnder v m.moved.inode n → ((h : Holding) → IsShown v m.moved.inode h → IsNeededFor v h (codes "..") n) → IsNeededIn v m blocks n
  needed_parent moves blocks n under needed = moving.IsNeededIn.to_go m.moved.inode [] (codes "..") under (the_parent moves) (after_none v m.moved.inode (λ k. IsNeededFor v k (codes "..") n) needed)

  -- of the directory that gets the new name, as a call has the names
  pub needed_there : (before : List (List ℕ)) (name other : List ℕ) (n : Missing) → GoesThere m before name → other ≡ name → IsAskedUnder v m.to.inode n → IsAfter v m.to.inode before (λ k. IsNeededFor v k other n) → IsNeededThere v m n
  needed_there before name other n goes called under is = moving.IsNeededThere.to_go before name under goes (subst (λ x. IsAfter v m.to.inode before (λ k. IsNeededFor v k x n)) called is)

  pub broken_there : (before : List (List ℕ)) (name : List ℕ) (rule b : ℕ) → GoesThere m before name → IsAfter v m.to.inode before (λ k. IsBroken v k rule b) → IsWrongThere v m rule b
  broken_there before name rule b goes is = moving.IsWrongThere.to_go rule b before name goes is

  -- what is needed, or wrong, there stands in the way of the move
  pub needed_of_move : (blocks : List ℕ) (n : Missing) → IsNeededThere v m n → IsNeededIn v m blocks n
  needed_of_move blocks n (moving.IsNeededThere.to_go _ _ under (new_first replaces) is) = moving.IsNeededIn.to_go m.to.inode [] m.new_name under (the_new replaces) is
  needed_of_move blocks n (moving.IsNeededThere.to_go _ _ under (old_then replaces within) is) = moving.IsNeededIn.to_go m.to.inode (m.new_name ∷ []) m.name under (the_old_then replaces within) is
  needed_of_move blocks n (moving.IsNeededThere.to_go _ _ under (old_first stays within) is) =
      let same = sym (equal m.from m.to.inode within) in
      moving.IsNeededIn.to_go m.from [] m.name (subst (λ d. IsAskedUnder v d n) same under) the_old (subst (λ d. IsAfter v d [] (λ k. IsNeededFor v k m.name n)) same is)
  needed_of_move blocks n (moving.IsNeededThere.to_come under is) = moving.IsNeededIn.to_come under is

  pub wrong_of_move : (blocks : List ℕ) (rule b : ℕ) → IsWrongThere v m rule b → IsWrongIn v m blocks rule b
  wrong_of_move blocks rule b (moving.IsWrongThere.to_go _ _ _ _ (new_first replaces) is) = moving.IsWrongIn.to_go m.to.inode rule b [] m.new_name (the_new replaces) is
  wrong_of_move blocks rule b (moving.IsWrongThere.to_go _ _ _ _ (old_then replaces within) is) = moving.IsWrongIn.to_go m.to.inode rule b (m.new_name ∷ []) m.name (the_old_then replaces within) is
  wrong_of_move blocks rule b (moving.IsWrongThere.to_go _ _ _ _ (old_first stays within) is) =
      moving.IsWrongIn.to_go m.from rule b [] m.name the_old (subst (λ d. IsAfter v d [] (λ k. IsBroken v k rule b)) (sym (equal m.from m.to.inode within)) is)
  wrong_of_move blocks rule b (moving.IsWrongThere.to_come _ _ is) = moving.IsWrongIn.to_come rule b is

  pub there_absent : (n : Missing) → IsNeededThere v m n → v.block_at n.block ≡ None
  there_absent n (moving.IsNeededThere.to_go before name under goes is) = under.absent
  there_absent n (moving.IsNeededThere.to_come under is) = under.absent

pub needed_as : {A : Type 0} (r : Result (Step A) CallFault) (P Q : Missing → Type 0) → ((n : Missing) → P n → Q n) → IfNeedBlock r P → IfNeedBlock r Q
needed_as (Ok (Is x)) P Q so p = tt
needed_as (Ok (NeedBlock n)) P Q so p = so n p
needed_as (Err f) P Q so p = tt

-- two things that are said of a block that is needed
pub needed_two : {A : Type 0} (r : Result (Step A) CallFault) (P Q R : Missing → Type 0) → ((n : Missing) → P n → Q n → R n) → IfNeedBlock r P → IfNeedBlock r Q → IfNeedBlock r R
needed_two (Ok (Is x)) P Q R so p q = tt
needed_two (Ok (NeedBlock n)) P Q R so p q = so n p q
needed_two (Err f) P Q R so p q = tt

-- whether something stands at the new name, as the code has it
pub some_copied : {X Y : Type 0} (f : X → Y) (x : Option X) → is_some (option_map f x) ≡ is_some x
some_copied f None = refl
some_copied f (Some x) = refl

pub no_losses : (m : Move) → is_replacing m ≡ false → is_within m ≡ false → lost_there m ≡ []
no_losses m replaces within = ap₂ (λ r w. losses r w m.name m.new_name) replaces within

pub one_loss : (m : Move) → is_replacing m ≡ false → is_within m ≡ true → lost_there m ≡ m.name ∷ []
one_loss m replaces within = ap₂ (λ r w. losses r w m.name m.new_name) replaces within

pub first_loss : (m : Move) → is_replacing m ≡ true → lost_there m ≡ m.new_name ∷ (if is_within m then m.name ∷ [] else [])
first_loss m replaces = ap (λ r. losses r (is_within m) m.name m.new_name) replaces

-- a directory that moves to another one gets another parent
pub reparents : (m : Move) → is_directory m.moved.dinode ≡ true → (m.from ≡ m.to.inode → ⊥) → is_reparented m ≡ true
reparents m dir apart = both (is_directory m.moved.dinode) (not (is_within m)) dir (ap not (ne_eqb m.from m.to.inode apart))
  where
    both : (a b : Bool) → a ≡ true → b ≡ true → (a && b) ≡ true
    both true b e f = f
    both false b e f = absurd (true≢false (sym e))
