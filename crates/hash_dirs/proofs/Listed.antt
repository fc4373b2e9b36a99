-- The names of a leaf, one after another.
use Rattle.std.proofs.Common.{◌≡◌, ◌≢◌, ℕ, zero, suc, ◌+◌, add-one, Bool, true, false, List, [], ◌∷◌, ◌++◌, IsTrue, sym, ap, ◌∙◌, subst, append_assoc, arith}
use Rattle.std.specs.Prelude.{Contains, flat_map}
use Rattle.std.specs.List.{range_with_len}
use Rattle.std.proofs.lemmas.Grind.{flat_map-append}
use Rattle.std.proofs.lemmas.List.{append-nil}
use Rattle.std.proofs.lemmas.List.Concat.{flat_map-cons}
use Rattle.file_tree.specs.Names.{IsName}
use Rattle.gfs2_layout.specs.Area.{Slot, IsShown, name_of}
use Rattle.gfs2_layout.specs.Holding.{Holding}
use Rattle.gfs2_layout.specs.Inode.{leaf_area}
use Rattle.gfs2_layout.specs.Records.{Record, is_dots, names_of, record_of, records_in}
use Rattle.gfs2_layout.specs.Structures.{is_in_use}
use Rattle.gfs2_layout.specs.declared.dirent.Dirent.{Dirent}
use Rattle.glock_names.specs.Steps.{IsDamage, TellsOf}
use Rattle.glock_names.specs.declared.steps.CallFault.{CallFault}
use Rattle.glock_names.specs.declared.steps.CallFault.TheVariants.{Damaged, NoMemory}
use Rattle.hash_dirs.specs.Broken.{IsBroken, no_name}
use Rattle.glock_names.specs.Views.{Seen, HasBlock, IsOfView}
use Rattle.dinode_tree.specs.Shown.{IsAtBlock}
use Rattle.linear_dirs.proofs.Records.{names_more}
use Rattle.pointer_tables.specs.Directories.{IsInChain}
use Rattle.hash_dirs.specs.Shown.{LeadsToLeaf}
use Rattle.hash_dirs.specs.Walking.{IsLeafOf, chain_names, leaf_on, names_at}
use Rattle.hash_dirs.specs.declared.chains.LeafAt.{LeafAt}
use Rattle.hash_dirs.proofs.Along.{chain_is}

is_true : {b : Bool} → b ≡ true → IsTrue b
is_true e = grind (arith, e)

pub name_broken : (h : Holding) (i from block : ℕ) (s : Slot) (head : Dirent) (name : List ℕ) (fault : CallFault) → IsShown head name s → LeadsToLeaf h i from block → block ≢ 0
    → (is_in_use s.head ≡ true → Contains (records_in (leaf_area h block)) (record_of s)) → is_in_use head ≡ true → is_dots name ≡ false → ¬ (IsName name) → fault ≡ Damaged block 9 → TellsOf (IsBroken h) fault
name_broken h i from block s head name fault shown leads some has used dots wrong is =
    let used_s : is_in_use s.head ≡ true = ap is_in_use (sym shown.head_is) ∙ used in
    let same : name ≡ name_of s = shown.name_is (is_true used_s) in
    subst (TellsOf (IsBroken h)) (sym is) (no_name i from block (record_of s) leads some (has used_s) (ap is_dots (sym same) ∙ dots) (λ one. wrong (subst IsName (sym same) one)))

-- a fault that may be told where memory ended too
pub tells : (h : Holding) (fault : CallFault) → IsDamage (IsBroken h) fault → TellsOf (IsBroken h) fault
tells h (Damaged block rule) broken = broken
tells h NoMemory broken = tt

pub tells_of : (P : ℕ → ℕ → Type 0) (fault : CallFault) → IsDamage P fault → TellsOf P fault
tells_of P (Damaged block rule) broken = broken
tells_of P NoMemory broken = tt

pub tells_at : (v : Seen) (fault : CallFault) (b : ℕ) → HasBlock v b → TellsOf (IsAtBlock b) fault → TellsOf (IsOfView v) fault
tells_at v (Damaged block rule) b has at = subst (HasBlock v) (sym at) has
tells_at v NoMemory b has at = tt

pub tells_rule : (h : Holding) (fault : CallFault) (b rule : ℕ) → fault ≡ Damaged b rule → IsBroken h rule b → TellsOf (IsBroken h) fault
tells_rule h fault b rule is broken = subst (TellsOf (IsBroken h)) (sym is) broken

-- ---- lists of names

pub names_grow : (old now new : List (List ℕ)) (front more : List Record) → now ≡ old ++ names_of front → new ≡ now ++ names_of more → new ≡ old ++ names_of (front ++ more)
names_grow old now new front more is grown =
    grown ∙ ap (λ ns. ns ++ names_of more) is ∙ append_assoc old (names_of front) (names_of more) ∙ ap (λ ns. old ++ ns) (sym (names_more front more))

pub names_all : (old now : List (List ℕ)) (front all : List Record) → now ≡ old ++ names_of front → all ≡ front → now ≡ old ++ names_of all
names_all old now front all is same = is ∙ ap (λ rs. old ++ names_of rs) (sym same)

pub range_more : (a n : ℕ) → range_with_len a (suc n) ≡ range_with_len a n ++ (a + n) ∷ []
range_more a zero = ap (λ b. b ∷ []) (let e : a ≡ a + 0 = omega arith in e)
range_more a (suc n) = ap (λ rest. a ∷ rest) (range_more (a + 1) n ∙ ap (λ b. range_with_len (a + 1) n ++ b ∷ []) (let e : a + 1 + n ≡ a + suc n = omega arith in e))

one_leaf : (h : Holding) (x : ℕ) → flat_map (names_at h) (x ∷ []) ≡ names_at h x
one_leaf h x = flat_map-cons (names_at h) x [] ∙ append-nil (names_at h x)

pub chain_names_more : (h : Holding) (i place x : ℕ) → IsInChain h i place x → chain_names h i (place + 1) ≡ chain_names h i place ++ names_at h x
chain_names_more h i place x chain =
    ap (chain_names h i) (add-one place)
    ∙ ap (flat_map (λ k. names_at h (leaf_on h i k))) (range_more 0 place)
    ∙ flat_map-append (λ k. names_at h (leaf_on h i k)) (range_with_len 0 place) ((0 + place) ∷ [])
    ∙ ap (λ ns. chain_names h i place ++ ns) (flat_map-cons (λ k. names_at h (leaf_on h i k)) (0 + place) [] ∙ append-nil (names_at h (leaf_on h i (0 + place)))
    ∙ ap (λ k. names_at h (leaf_on h i k)) (let e : 0 + place ≡ place = omega arith in e) ∙ ap (names_at h) (sym (chain_is h i place x chain)))

-- the names of one leaf more were added
pub chain_listed : (h : Holding) (i place x : ℕ) (leaf : LeafAt) (old now new : List (List ℕ)) → IsInChain h i place x → IsLeafOf h x leaf → now ≡ old ++ chain_names h i place → new ≡ now ++ names_of (records_in leaf.area.now)
    → new ≡ old ++ chain_names h i (place + 1)
chain_listed h i place x leaf old now new chain is listed added =
    added ∙ ap (λ ns. ns ++ names_of (records_in leaf.area.now)) listed ∙ append_assoc old (chain_names h i place) (names_of (records_in leaf.area.now))
    ∙ ap (λ ns. old ++ ns) (ap (λ a. chain_names h i place ++ names_of (records_in a)) is.area ∙ sym (chain_names_more h i place x chain))
