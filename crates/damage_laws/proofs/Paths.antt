-- Damage in an inode, and on a path.
use Rattle.std.proofs.Common.{◌≡◌, ◌≢◌, ℕ, suc, ◌-◌, ◌<◌, inl, inr, Bool, true, false, List, [], ◌∷◌, length, Option, None, Some, refl, sym, ap, ◌∙◌, subst, arith}
use Rattle.std.proofs.lemmas.Bool.{cases_Bool, cond-false}
use Rattle.std.specs.Prelude.{Contains, codes}
use Rattle.std.specs.Option.{option_map}
use Rattle.gfs2_layout.specs.Holding.{Holding}
use Rattle.gfs2_layout.specs.Inode.{dinode_in, entry, first_hash, is_hashed_in, leaf_area, linear_area, records_of}
use Rattle.gfs2_layout.specs.Records.{Record, record_named, records_in}
use Rattle.glock_names.specs.Views.{Seen}
use Rattle.glock_names.specs.declared.steps.Entry.{Entry}
use Rattle.call_locks.specs.declared.want.Want.{Want}
use Rattle.dinode_tree.specs.Broken as inode
use Rattle.directories.specs.Shown as dirs
use Rattle.hash_dirs.specs.Broken as leaves
use Rattle.linear_dirs.specs.Broken as directory
use Rattle.linear_dirs.specs.Shown.{entry_of}
use Rattle.image_model.specs.Claims.{every, below, HasInode, HasDirectory, HasArea, HasLeaf, behind_dinode, of_leaf}
use Rattle.image_model.specs.Claims as image
use Rattle.image_model.specs.Flat.{Path}
use Rattle.image_model.specs.Image.{Image, IsImage}
use Rattle.image_model.specs.Owners.{Named, Chained}
use Rattle.image_model.specs.Rules as rules
use Rattle.image_model.specs.Rules.{Needs, of_dinode, of_indirect, of_table, HasRecords, from_dinode_block, Breaks, HasRecordIn}
use Rattle.image_model.proofs.Held.{none_some}
use Rattle.image_model.proofs.Members.{IsIn, is_in}
use Rattle.image_reader.proofs.Directories.{leaf_is_hashed, not_both}
use Rattle.file_calls.specs.Walks as path
use Rattle.file_calls.specs.Walks.{IsLinearAt, IsWrongAt, in_inode, in_directory, too_few, on_path, leads_out}
use Rattle.file_calls.proofs.Images.{none_named}
use Rattle.damage_laws.specs.Telling.{InodesAreThere, PathsTell, HasAstray, IsAstray, IsReadFrom, IsTold, itself, astray}
use Rattle.image_model.proofs.Behind.{behind_nearer}
use Rattle.damage_laws.proofs.Claimed.{shown, is_directory, directory_or, astray_at, further, led_there, next_there, next_led, outside, chain_behind, chain_claims, leaf_claims, has_leaf, record_is, name_claims, IsNamedBy}
use Rattle.damage_laws.proofs.Leaves.{AreMarked, marked_or, all_records, has_records, record_of_leaf}
use Rattle.damage_laws.proofs.Gone.{as_many, lacks_dot}

-- ---- an inode

module _ (im : Image) (a : ℕ) (has : HasInode im a) where
  needed : (b kind format : ℕ) → inode.Needs (every im a) b kind format → Needs im b kind format
  needed b kind format inode.of_dinode = of_dinode a has
  needed b kind format (inode.of_indirect x k level first c leads) = of_indirect x a c x k level first (below has.1.by a has.0 x k (suc level) first c has.1.claimed has.1.dinode leads)
  needed b kind format (inode.of_table x k first c leads is) = of_table x a c x k first (below has.1.by a has.0 x k 0 first c has.1.claimed has.1.dinode leads) is

  pub broken_inode : (rule b : ℕ) → inode.IsBroken (every im a) rule b → Breaks im rule b
  broken_inode rule b (inode.no_header x kind format needs lacks) = rules.no_header x kind format (needed x kind format needs) lacks
  broken_inode rule b (inode.other_address other) = rules.other_address a has other
  broken_inode rule b (inode.no_number none) = rules.no_number a has none
  broken_inode rule b (inode.no_mode no_dir no_file) = rules.no_mode a has no_dir no_file
  broken_inode rule b (inode.too_high high) = rules.too_high a has high
  broken_inode rule b (inode.too_large_for_dinode flat large) = rules.too_large_for_dinode a has flat large
  broken_inode rule b (inode.too_large_for_height level height large) = rules.too_large_for_height a level has height large
  broken_inode rule b (inode.past_end x k level first c leads past) = rules.past_end a x k level first c has leads past

-- ---- a linear directory

module _ (im : Image) (a : ℕ) (has : HasDirectory im a) (linear : is_hashed_in (every im a) ≡ false) where
  area : HasArea im a a (linear_area (every im a))
  area = behind_dinode has linear

  same_records : records_of (every im a) ≡ records_in (linear_area (every im a))
  unfolding records_of
  same_records = cond-false _ _ _ linear

  records : HasRecords im a (records_of (every im a))
  records = subst (HasRecords im a) (sym same_records) (from_dinode_block has linear)

  pub broken_directory : (rule b : ℕ) → directory.IsBroken (every im a) rule b → Breaks im rule b
  broken_directory rule b (directory.of_inode r x broken) = broken_inode im a has.inode r x broken
  broken_directory rule b (directory.not_stuffed height) = rules.linear_height a has linear height
  broken_directory rule b (directory.not_filled size) = rules.linear_size a has linear size
  broken_directory rule b (directory.no_area bad) = rules.unfilled a a (linear_area (every im a)) area bad
  broken_directory rule b (directory.no_name r in_it plain bad) =
      rules.no_name a a r (linear_area (every im a), area, subst (λ rs. Contains rs r) same_records in_it) plain bad
  broken_directory rule b (directory.wrong_entries other) = rules.entry_count a (records_of (every im a)) records other
  broken_directory rule b (directory.wrong_links other) = rules.directory_links a (records_of (every im a)) records other

  -- its records are those of its dinode's block
  in_records : (x : ℕ) (part : List ℕ) (r : Record) → HasArea im a x part → Contains (records_in part) r → Contains (records_of (every im a)) r
  in_records x _ r (behind_dinode _ plain) in_it = subst (λ rs. Contains rs r) (sym same_records) in_it
  in_records x _ r (of_leaf y held) in_it = absurd (not_both (is_hashed_in (every im a)) (leaf_is_hashed im held.0 y a held.1 held.2 held.3) linear)

  pub no_such : (name : List ℕ) → record_named (records_of (every im a)) name ≡ None → (x : ℕ) (r : Record) → HasRecordIn im a x r → r.name ≢ name
  no_such name none x r at same = none_named (records_of (every im a)) name none r (is_in r (records_of (every im a)) (in_records x at.0 r at.1 at.2)) same

-- ---- a hashed directory

no_entry : (named : Option Record) → None ≡ option_map entry_of named → named ≡ None
no_entry None e = refl
no_entry (Some r) e = absurd (none_some e)

some_entry : (named : Option Record) (e : Entry) → Some e ≡ option_map entry_of named → (r : Record) × (named ≡ Some r)
some_entry None e is = absurd (none_some (sym is))
some_entry (Some r) e is = (r, refl)

two_long : (xs : List Record) (r s : Record) → IsIn r xs → IsIn s xs → r.name ≢ s.name → length xs < 2 → ⊥
two_long [] r s first second other few = first
two_long (x ∷ []) r s (inl e) (inl f) other few = other (ap (λ (q : Record). q.name) (e ∙ sym f))
two_long (x ∷ []) r s (inl e) (inr at) other few = at
two_long (x ∷ []) r s (inr at) second other few = at
two_long (x ∷ y ∷ ys) r s first second other few = absurd (omega (arith, few))

some_in : (xs : List Record) (r : Record) → IsIn r xs → length xs ≢ 0
some_in [] r there none = there
some_in (x ∷ xs) r there none = absurd (omega (arith, none))

module _ (v : Seen) (im : Image) (read : IsReadFrom v im) (is_image : IsImage im) (a : ℕ) (has : HasDirectory im a) (hashed : is_hashed_in (every im a) ≡ true) where
  module _ (m : ℕ → Bool) (are : AreMarked im a has hashed m) where
    listed : HasRecords im a (all_records im a m)
    listed = has_records im a m has hashed are

    -- it counts no records, and has one
    counts_none : (x : ℕ) (r : Record) → HasLeaf im a x → Contains (records_in (leaf_area (every im a) x)) r → (dinode_in (every im a)).entries ≡ 0 → Breaks im 12 a
    counts_none x r held there none = rules.entry_count a (all_records im a m) listed (λ e. some_in (all_records im a m) r (record_of_leaf im a m has hashed are x r held there) (sym e ∙ none))

    links_none : (dinode_in (every im a)).nlink ≡ 0 → Breaks im 12 a
    links_none none = rules.directory_links a (all_records im a m) listed (λ e. absurd (omega (arith, e, none)))

    broken_hashed : (rule b : ℕ) → leaves.IsBroken (every im a) rule b → Breaks im rule b
    broken_hashed _ _ (leaves.of_inode rule b broken) = broken_inode im a has.inode rule b broken
    broken_hashed _ _ (leaves.no_header i from x leads some lacks) = rules.no_header x 6 600 (rules.of_leaf a x (has_leaf im a has.inode hashed i from x leads some)) lacks
    broken_hashed _ _ (leaves.unfilled i from x leads some bad) = rules.unfilled a x (leaf_area (every im a) x) (of_leaf x (has_leaf im a has.inode hashed i from x leads some)) bad
    broken_hashed _ _ (leaves.no_name i from x r leads some there plain bad) =
        rules.no_name a x r (leaf_area (every im a) x, of_leaf x (has_leaf im a has.inode hashed i from x leads some), there) plain bad
    broken_hashed _ _ (leaves.no_entries i from x r leads some there none) = counts_none x r (has_leaf im a has.inode hashed i from x leads some) there none
    broken_hashed _ _ (leaves.wrong_entries list found other) = rules.entry_count a (all_records im a m) listed (λ e. other (e ∙ as_many im a has hashed list found m are))
    broken_hashed _ _ (leaves.no_links none) = links_none none
    broken_hashed _ _ (leaves.table_too_small small) = rules.table_too_small a (has.inode, hashed) small
    broken_hashed _ _ (leaves.table_too_large large) = rules.table_too_large a (has.inode, hashed) large
    broken_hashed _ _ (leaves.table_size other) = rules.table_size a (has.inode, hashed) other
    broken_hashed _ _ (leaves.no_leaf i low none) = rules.no_leaf a i (has.inode, hashed) low none
    broken_hashed _ _ (leaves.records_format i from x leads some other) = rules.records_format a x (has_leaf im a has.inode hashed i from x leads some) other
    broken_hashed _ _ (leaves.too_deep i from x leads some deep) = rules.leaf_too_deep a x (has_leaf im a has.inode hashed i from x leads some) deep
    broken_hashed _ _ (leaves.leaf_entries i from x leads some other) = rules.leaf_entries a x (has_leaf im a has.inode hashed i from x leads some) other
    broken_hashed _ _ (leaves.comes_again i place later x first second before) =
        let one = chain_claims im a has.inode hashed i place x first in
        let behind = behind_nearer im a (entry (every im a) i) place x later x (chain_behind im a has.inode hashed i place x first) (chain_behind im a has.inode hashed i later x second) (omega (arith, before)) in
        rules.comes_again a x (later - place) (one.0, first_hash (every im a) i, place, one.1) behind (omega (arith, before))

    wrong_hashed : (rule b : ℕ) → leaves.IsWrongIn v (every im a) rule b → Breaks im rule b
    wrong_hashed _ _ (leaves.breaks rule b broken) = broken_hashed rule b broken
    wrong_hashed _ _ (leaves.outside i from x leads some out) =
        let c = leaf_claims im a has.inode hashed i from x leads some in
        rules.beyond_groups from x (Chained a c.0 c.1) c.2 (outside v im read is_image x out)
    wrong_hashed _ _ (leaves.stray i from x r leads some there plain out) =
        let c = leaf_claims im a has.inode hashed i from x leads some in
        rules.beyond_groups x r.address (Named a r.name) (image.in_leaf from x a c.0 c.1 r c.2 there plain) (outside v im read is_image r.address out)

    wrong_every : (rule b : ℕ) → dirs.IsBroken v (every im a) rule b → Breaks im rule b
    wrong_every rule b (dirs.of_inode broken) = broken_inode im a has.inode rule b broken
    wrong_every rule b (dirs.in_linear dir plain broken) = absurd (not_both (is_hashed_in (every im a)) hashed plain)
    wrong_every rule b (dirs.in_hashed flag wrong) = wrong_hashed rule b wrong

-- ---- a directory of any form

absent_linear : (im : Image) (a : ℕ) → HasDirectory im a → is_hashed_in (every im a) ≡ false → (name : List ℕ) (found : Option Entry) → None ≡ found → dirs.Says (every im a) name found
    → (x : ℕ) (r : Record) → HasRecordIn im a x r → r.name ≢ name
absent_linear im a has linear name _ none (dirs.in_linear plain) = no_such im a has linear name (no_entry (record_named (records_of (every im a)) name) none)
absent_linear im a has linear name _ none (dirs.in_hashed found flag small by) = absurd (not_both (is_hashed_in (every im a)) flag linear)

there_linear : (im : Image) (a : ℕ) → is_hashed_in (every im a) ≡ false → (name : List ℕ) (found : Option Entry) (e : Entry) → Some e ≡ found → dirs.Says (every im a) name found
    → (q : Record) × IsIn q (records_of (every im a)) × (q.name ≡ name)
there_linear im a linear name _ e some (dirs.in_linear plain) =
    let r = some_entry (record_named (records_of (every im a)) name) e some in
    let led = record_is (records_of (every im a)) name r.0 r.1 in
    (led.entry, is_in led.entry (records_of (every im a)) led.there, led.named)
there_linear im a linear name _ e some (dirs.in_hashed found flag small by) = absurd (not_both (is_hashed_in (every im a)) flag linear)

dots_differ : codes "." ≢ codes ".."
dots_differ e = cc

module _ (v : Seen) (im : Image) (read : IsReadFrom v im) (is_image : IsImage im) (wants : List Want) (names : Path) (a : ℕ) (up : ((x : ℕ) × IsAstray im a x) → HasAstray v im wants names) (has : HasDirectory im a) where
  abbrev Told : ℕ → ℕ → Type 0
  Told rule b = IsTold v im wants names rule b

  few_records : (xs : List Record) → HasRecords im a xs → ((q : Record) × IsIn q xs × (q.name ≡ codes ".")) → ((q : Record) × IsIn q xs × (q.name ≡ codes "..")) → (dinode_in (every im a)).entries < 2 → Breaks im 12 a
  few_records xs are own above few =
      rules.entry_count a xs are (λ e. two_long xs own.0 above.0 own.1 above.1 (λ same. dots_differ (sym own.2 ∙ same ∙ above.2)) (omega (arith, e, few)))

  pub broken_directory_told : (rule b : ℕ) → dirs.IsBroken v (every im a) rule b → Told rule b
  broken_directory_told rule b broken = elim (cases_Bool (is_hashed_in (every im a))) [
    | inr linear ↦ itself rule b (plain_told linear broken)
    | inl hashed ↦ elim (marked_or im a has hashed) [
      | inr out ↦ astray rule b (up out)
      | inl leaves ↦ itself rule b (wrong_every v im read is_image a has hashed leaves.0 leaves.1 rule b broken)
    ]
  ]
    where
      plain_told : is_hashed_in (every im a) ≡ false → dirs.IsBroken v (every im a) rule b → Breaks im rule b
      plain_told linear (dirs.of_inode broken) = broken_inode im a has.inode rule b broken
      plain_told linear (dirs.in_linear dir plain broken) = broken_directory im a has plain rule b broken
      plain_told linear (dirs.in_hashed flag wrong) = absurd (not_both (is_hashed_in (every im a)) flag linear)

  wrong_directory : (rule b : ℕ) → ((h : Holding) → dirs.IsShown v a h → dirs.IsBroken v h rule b) → Told rule b
  wrong_directory rule b wrong = elim (directory_or v im read is_image a has) [
    | inr out ↦ astray rule b (up out)
    | inl seen ↦ broken_directory_told rule b (wrong (every im a) seen)
  ]

  -- a linear one in which `.` or `..` isn't found
  wrong_dots : (name : List ℕ) → (((x : ℕ) (r : Record) → HasRecordIn im a x r → r.name ≢ name) → Breaks im 10 a) → IsLinearAt v a → ((h : Holding) → dirs.IsShown v a h → dirs.Says h name None) → Told 10 a
  wrong_dots name breaks linear none = elim (directory_or v im read is_image a has) [
    | inr out ↦ astray 10 a (up out)
    | inl seen ↦ itself 10 a (breaks (absent_linear im a has (linear (every im a) seen) name None refl (none (every im a) seen)))
  ]

  -- or that has both, and counts fewer records
  wrong_few : (own above : Entry) → IsLinearAt v a → ((h : Holding) → dirs.IsShown v a h → dirs.Says h (codes ".") (Some own) × dirs.Says h (codes "..") (Some above)) → (dinode_in (every im a)).entries < 2 → Told 12 a
  wrong_few own above linear says few = elim (directory_or v im read is_image a has) [
    | inr out ↦ astray 12 a (up out)
    | inl seen ↦
        let plain = linear (every im a) seen in
        let s = says (every im a) seen in
        itself 12 a (few_records (records_of (every im a)) (records im a has plain) (there_linear im a plain (codes ".") (Some own) own refl s.0) (there_linear im a plain (codes "..") (Some above) above refl s.1) few)
  ]

-- ---- an inode that is wrong as the view shows it

pub wrong_at : (v : Seen) (im : Image) (read : IsReadFrom v im) (is_image : IsImage im) (wants : List Want) (names : Path) (a : ℕ) → (((x : ℕ) × IsAstray im a x) → HasAstray v im wants names) → HasInode im a
    → (rule b : ℕ) → IsWrongAt v a rule b → IsTold v im wants names rule b
wrong_at v im read is_image wants names a up has _ _ (in_inode rule b broken) = itself rule b (broken_inode im a has rule b (broken (every im a) (shown v im read is_image a)))
wrong_at v im read is_image wants names a up has _ _ (in_directory rule b dir wrong) = wrong_directory v im read is_image wants names a up (is_directory v im read is_image a has dir) rule b wrong
wrong_at v im read is_image wants names a up has _ _ (path.no_dot dir linear none) =
    let there = is_directory v im read is_image a has dir in
    wrong_dots v im read is_image wants names a up there (codes ".") (λ absent. rules.no_dot a there absent) linear none
wrong_at v im read is_image wants names a up has _ _ (path.no_dots dir linear none) =
    let there = is_directory v im read is_image a has dir in
    wrong_dots v im read is_image wants names a up there (codes "..") (λ absent. rules.no_dots a there absent) linear none
wrong_at v im read is_image wants names a up has _ _ (too_few own above dir linear says few) =
    wrong_few v im read is_image wants names a up (is_directory v im read is_image a has dir) own above linear says (few (every im a) (shown v im read is_image a))
wrong_at v im read is_image wants names a up has _ _ (path.few_in_leaves dir few) =
    let there = is_directory v im read is_image a has dir in
    elim (directory_or v im read is_image a there) [
      | inr out ↦ astray 10 a (up out)
      | inl seen ↦ let f = few (every im a) seen in itself 10 a (lacks_dot im a there f.0 f.1.leaves f.1.are (omega (arith, f.1.entries, f.2)))
    ]

-- ---- on a path

pub inodes_are_there : InodesAreThere
inodes_are_there v im wants path a read is_image leads = led_there v im read is_image wants path a leads

pub paths_tell : PathsTell
paths_tell v im wants path _ _ read is_image (on_path depth a r x next held wrong) = elim (next_there v im read is_image wants path depth a next) [
  | inr out ↦ astray r x out
  | inl has ↦
      let led = next_led v im read is_image wants path depth a next held in
      wrong_at v im read is_image wants path a (λ out. further v im read is_image wants led.0 led.1 path led.2 (astray_at v im read is_image wants led.0 a led.3 out)) has r x wrong
]
paths_tell v im wants path _ _ read is_image (leads_out front back dir c name on leads is names linear out) = elim (led_there v im read is_image wants front dir leads) [
  | inr ahead ↦ astray 2 dir (further v im read is_image wants front (name ∷ back) path on ahead)
  | inl has ↦ elim (directory_or v im read is_image dir (is_directory v im read is_image dir has names.directory)) [
    | inr far ↦ astray 2 dir (further v im read is_image wants front (name ∷ back) path on (astray_at v im read is_image wants front dir leads far))
    | inl seen ↦ itself 2 dir (by_name (linear (every im dir) seen) (name_claims im dir c name has (is_directory v im read is_image dir has names.directory).dir is (names.child (every im dir) seen)))
  ]
]
  where
    by_name : is_hashed_in (every im dir) ≡ false → IsNamedBy im dir c name → Breaks im 2 dir
    by_name plain named = elim named.from [
      | inl same ↦ subst (Breaks im 2) same (rules.beyond_groups named.by c (Named dir name) named.claims (outside v im read is_image c out))
      | inr held ↦ absurd (not_both (is_hashed_in (every im dir)) (leaf_is_hashed im held.0 named.by dir held.1 held.2 held.3) plain)
    ]
