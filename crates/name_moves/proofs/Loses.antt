-- Directories from which names went: what they keep, and what a draft shows of them.
use Rattle.std.proofs.Common.{◌≡◌, ◌≢◌, ◌&&◌, ℕ, suc, ◌<◌, ◌≤◌, Bool, true, false, true≢false, inl, inr, List, [], ◌∷◌, ◌++◌, length, Option, None, Some, refl, sym, ap, ◌∙◌, subst, arith, append_assoc, length-append, cond}
use Rattle.std.proofs.lemmas.List.Sums.{sum_by-cons}
use Rattle.std.proofs.lemmas.List.Sorted.{Contains-permutation, IsPermutation-sym, sum_by-IsPermutation}
use Rattle.std.proofs.lemmas.Slice.Eq.{bytes_eq-Decides}
use Rattle.std.specs.Prelude.{Contains, IsSome, count_by, option_map}
use Rattle.std.specs.Option.{option_map as mapped}
use Rattle.std.specs.Str.{bytes_eq}
use Rattle.std.specs.List.Sorted.{IsPermutation}
use Rattle.gfs2_layout.specs.Device.{IsBlockSize}
use Rattle.gfs2_layout.specs.Exchanges.{IsExchanged}
use Rattle.gfs2_layout.specs.Holding.{Cell, Holding, cell_bytes, cell_part, part_at}
use Rattle.gfs2_layout.specs.Inode.{Head, Leads, from_block, from_dinode, has_hash_flag, height_in, is_directory_in, is_hashed_in, records_of}
use Rattle.gfs2_layout.specs.Records.{Record, record_named}
use Rattle.gfs2_layout.specs.Structures.{is_directory}
use Rattle.gfs2_layout.specs.declared.dinode.Dinode.{Dinode}
use Rattle.glock_names.specs.Views.{Seen}
use Rattle.glock_names.specs.declared.steps.Entry.{Entry}
use Rattle.image_model.proofs.Held.{none_some, some_same}
use Rattle.image_model.proofs.Members.{contained, is_in}
use Rattle.dinode_tree.specs.Shown.{IsAsSeen}
use Rattle.dinode_tree.specs.Shown as inode
use Rattle.dinode_tree.proofs.Sound.{sound_is_shown, sound_is_whole}
use Rattle.linear_dirs.specs.Shown.{bytes_over, entry_of, holding_over}
use Rattle.linear_dirs.proofs.Over.{as_seen, parts_stay}
use Rattle.linear_dirs.proofs.Rewritten.{over_there}
use Rattle.hash_dirs.specs.Finding.{IsLeafOfName, in_none, in_this}
use Rattle.hash_dirs.specs.Shown.{IsSound, index_for}
use Rattle.hash_dirs.proofs.Chained.{cell_some, in_chain}
use Rattle.hash_dirs.proofs.Named.{find_some}
use Rattle.directories.specs.Shown.{IsShown, Says}
use Rattle.directories.specs.Shown as dirs
use Rattle.directories.specs.Taking.{HasRecordOf, IsWithoutName}
use Rattle.directories.specs.Taking as taking
use Rattle.directories.proofs.Sound.{says_sound}
use Rattle.name_drafts.proofs.Images.{none_named}
use Rattle.name_moves.specs.Becoming.{CanTell, HasItsBlocks, IsAtRecord, IsLostAt, LosesAll, LosesName, none_went, of_linear, of_none, of_one, of_sound}

-- ---- what a draft leaves of what is shown

pub over_cell : (o : Option (List ℕ)) (c : Option Cell) → ((bytes : List ℕ) → IsSome c → o ≡ Some bytes → cell_bytes c ≡ bytes) → option_map (bytes_over o) c ≡ c
over_cell o None same = refl
over_cell None (Some c) same = refl
over_cell (Some bytes) (Some c) same = λ i. Some (record c { bytes = sym (same bytes refl refl) i })

-- an inode as it is seen is what is left of it
pub over_seen : (v : Seen) (h : Holding) → IsAsSeen v h → holding_over v h ≡ h
over_seen v h seen = λ i. record h { cell = λ b. over_cell (v.block_at b) (h.cell b) (seen b) i }

pub kept_over : (w : Seen) (h : Holding) → HasItsBlocks h (holding_over w h)
kept_over w h = record { size = refl; count = refl; own = refl; parts = parts_stay w h }

pub some_by_part : (c d : Option Cell) → cell_part c ≡ cell_part d → IsSome c → IsSome d
some_by_part (Some c) (Some d) e some = refl
some_by_part (Some c) None e some = absurd (none_some (sym e))
some_by_part None d e some = absurd (no some)
  where
    no : false ≡ true → ⊥
    no e = cc

pub kept_cells : (h g : Holding) → HasItsBlocks h g → (b : ℕ) → IsSome (g.cell b) → IsSome (h.cell b)
kept_cells h g kept b some = some_by_part (g.cell b) (h.cell b) (kept.parts b) some

pub kept_back : (h g : Holding) → HasItsBlocks h g → (b : ℕ) → IsSome (h.cell b) → IsSome (g.cell b)
kept_back h g kept b some = some_by_part (h.cell b) (g.cell b) (sym (kept.parts b)) some

-- ---- names that go leave a sound directory

once_lost : (old new : List Record) (gone : Record) → IsExchanged old new (gone ∷ []) [] → ((name : List ℕ) → count_by (λ r. bytes_eq name r.name) old ≤ 1) → (name : List ℕ) → count_by (λ r. bytes_eq name r.name) new ≤ 1
once_lost old new gone exchanged once name =
    let test : Record → Bool = λ r. bytes_eq name r.name in
    let whole = count_permutation test old ((gone ∷ []) ++ exchanged.rest) exchanged.before in
    let rest = count_permutation test new ([] ++ exchanged.rest) exchanged.after in
    let more : count_by test exchanged.rest ≤ count_by test (gone ∷ exchanged.rest) = omega (arith, sum_by-cons (λ r. cond (test r) 1 0) gone exchanged.rest) in
    omega (arith, whole, rest, more, once name)
  where
    count_permutation : (test : Record → Bool) (xs ys : List Record) → IsPermutation xs ys → count_by test ys ≡ count_by test xs
    count_permutation test xs ys same = sum_by-IsPermutation (λ r. cond (test r) 1 0) xs ys same

pub sound_lost : (h g : Holding) (name : List ℕ) → LosesName h g name → IsSound h → IsSound g
sound_lost h g name lost sound = record {
  block_size = subst IsBlockSize (sym lost.kept.size) sound.block_size;
  inode = lost.exchanged.sound sound.inode;
  placed = record {
    own = lost.kept.parts g.own ∙ ap (part_at h) lost.kept.own ∙ sound.placed.own;
    only = λ b at. sound.placed.only b (sym (lost.kept.parts b) ∙ at) ∙ sym lost.kept.own;
    nobody = lost.kept.parts 0 ∙ sound.placed.nobody;
    inside = λ b some. subst (λ n. b < n) (sym lost.kept.count) (sound.placed.inside b (kept_cells h g lost.kept b some));
  };
  once = once_lost (records_of h) (records_of g) lost.gone lost.exchanged.records sound.once;
}

pub directory_lost : (h g : Holding) (name : List ℕ) → LosesName h g name → is_directory_in g ≡ is_directory_in h
directory_lost h g name lost = ap (λ (x : Head). x.is_dir) lost.exchanged.head

pub all_sound : (names : List (List ℕ)) (h g : Holding) → LosesAll names h g → IsSound h → IsSound g
all_sound _ _ _ (of_none h) sound = sound
all_sound _ _ _ (of_one name names h k g first later) sound = all_sound names k g later (sound_lost h k name first sound)

pub all_directory : (names : List (List ℕ)) (h g : Holding) → LosesAll names h g → is_directory_in g ≡ is_directory_in h
all_directory _ _ _ (of_none h) = refl
all_directory _ _ _ (of_one name names h k g first later) = all_directory names k g later ∙ directory_lost h k name first

kept_both : (h k g : Holding) → HasItsBlocks h k → HasItsBlocks k g → HasItsBlocks h g
kept_both h k g first later = record {
  size = later.size ∙ first.size;
  count = later.count ∙ first.count;
  own = later.own ∙ first.own;
  parts = λ b. later.parts b ∙ first.parts b;
}

pub all_kept : (names : List (List ℕ)) (h g : Holding) → LosesAll names h g → HasItsBlocks h g
all_kept _ _ _ (of_none h) = record { size = refl; count = refl; own = refl; parts = λ b. refl }
all_kept _ _ _ (of_one name names h k g first later) = kept_both h k g first.kept (all_kept names k g later)

pub only_one : (name : List ℕ) (h g : Holding) → LosesAll (name ∷ []) h g → LosesName h g name
only_one name h g (of_one _ _ _ k _ first (of_none _)) = first

-- one more
pub lost_more : (names : List (List ℕ)) (name : List ℕ) (h k g : Holding) → LosesAll names h k → LosesName k g name → LosesAll (names ++ name ∷ []) h g
lost_more _ name _ _ g (of_none h) last = of_one name [] h g g last (of_none g)
lost_more _ name _ _ g (of_one first names h m k one later) last = of_one first (names ++ name ∷ []) h m g one (lost_more names name m k g later last)

-- ---- the blocks to which something is done as names go

pub last_lost : (names : List (List ℕ)) (name : List ℕ) (h k : Holding) (b : ℕ) → LosesAll names h k → IsAtRecord k name b → IsLostAt (names ++ name ∷ []) h b
last_lost names name h k b lost at = record { before = names; name = name; later = []; parts = refl; without = k; lost = lost; at = at }

pub lost_more_at : (names : List (List ℕ)) (name : List ℕ) (h : Holding) (b : ℕ) → IsLostAt names h b → IsLostAt (names ++ name ∷ []) h b
lost_more_at names name h b is = record {
  before = is.before;
  name = is.name;
  later = is.later ++ name ∷ [];
  parts = ap (λ xs. xs ++ name ∷ []) is.parts ∙ append_assoc is.before (is.name ∷ is.later) (name ∷ []);
  without = is.without;
  lost = is.lost;
  at = is.at;
}

-- where one name goes
pub lost_one_at : (name : List ℕ) (h : Holding) (b : ℕ) → IsLostAt (name ∷ []) h b → IsAtRecord h name b
lost_one_at name h b is = by is.before is.name is.later is.parts is.without is.lost is.at
  where
    by : (before : List (List ℕ)) (n : List ℕ) (later : List (List ℕ)) → name ∷ [] ≡ before ++ n ∷ later → (k : Holding) → LosesAll before h k → IsAtRecord k n b → IsAtRecord h name b
    by [] n later e _ (of_none _) at = let same : name ≡ n = cc in subst (λ x. IsAtRecord h x b) (sym same) at
    by (x ∷ before) n later e k lost at = absurd (omega (arith, ap length e, length-append before (n ∷ later)))

-- ---- names that a sound directory can lose

-- what is told once some names went is told whatever their names are
pub tell_as : (name : List ℕ) (names others : List (List ℕ)) (h : Holding) → CanTell (name ∷ names) h → CanTell others h
tell_as name names others h (none_went none) = absurd (no none)
  where
    no : name ∷ names ≡ [] → ⊥
    no e = cc
tell_as name names others h (of_sound sound) = of_sound sound
tell_as name names others h (of_linear plain flat) = of_linear plain flat

pub none_left : (h k : Holding) → LosesAll [] h k → k ≡ h
none_left h _ (of_none _) = refl

pub can_tell : (names : List (List ℕ)) (h : Holding) → IsSound h → CanTell names h
can_tell names h sound = of_sound sound

-- ---- what a draft shows of a sound one

pub shown_over : (w : Seen) (h : Holding) (dir : ℕ) → h.own ≡ dir → IsSound (holding_over w h) → h.size ≡ w.size → IsShown w dir (holding_over w h)
shown_over w h dir own sound size = record {
  inode = subst (λ a. inode.IsShown w a (holding_over w h)) own (sound_is_shown w (holding_over w h) sound.inode sound.placed.own size (as_seen w h));
  leaves = λ hashed i place x chain some. cell_some ((holding_over w h).cell x) _ (in_chain (holding_over w h) sound hashed i place x chain);
  whole = λ hashed at. sound_is_whole (holding_over w h) at sound.block_size sound.inode;
}

record_of_entry : (x : Option Record) (e : Entry) → Some e ≡ mapped entry_of x → (r : Record) × (x ≡ Some r)
record_of_entry None e is = absurd (none_some (sym is))
record_of_entry (Some r) e is = (r, refl)

pub named_sound : (h : Holding) (name : List ℕ) (e : Entry) → IsSound h → Says h name (Some e) → (r : Record) × (record_named (records_of h) name ≡ Some r)
named_sound h name e sound says = record_of_entry (record_named (records_of h) name) e (says_sound h name (Some e) sound says)

-- a name that a sound directory has goes
pub loses_one : (v w : Seen) (dir : ℕ) (name : List ℕ) (leaf : ℕ) → IsWithoutName v w dir name leaf → (h : Holding) → IsShown v dir h → IsSound h → (e : Entry) → Says h name (Some e) → LosesName h (holding_over w h) name
loses_one v w dir name leaf without h shown sound e says =
    let r = named_sound h name e sound says in
    record {
      gone = r.0;
      named = r.1;
      exchanged = without.removed h r.0 shown (λ hashed. sound) r.1;
      kept = kept_over w h;
      in_linear = λ plain. without.in_linear h shown plain;
      in_hashed = λ hashed. (leaf, without.in_hashed h shown hashed sound);
    }

-- ---- of a linear one, whatever else it is

pub plain_lost : (h g : Holding) (name : List ℕ) → LosesName h g name → is_hashed_in h ≡ false → (is_hashed_in g ≡ false) × (height_in g ≡ height_in h)
plain_lost h g name lost plain = let cut = lost.in_linear plain in (ap (λ (d : Dinode). is_directory d && has_hash_flag d) cut.dinode ∙ plain, ap (λ (d : Dinode). d.height) cut.dinode)

pub all_plain : (names : List (List ℕ)) (h g : Holding) → LosesAll names h g → is_hashed_in h ≡ false → (is_hashed_in g ≡ false) × (height_in g ≡ height_in h)
all_plain _ _ _ (of_none h) plain = (plain, refl)
all_plain _ _ _ (of_one name names h k g first later) plain =
    let one = plain_lost h k name first plain in
    let rest = all_plain names k g later one.0 in
    (rest.0, rest.1 ∙ one.1)

pub plain_says : (h : Holding) (name : List ℕ) (found : Option Entry) → is_hashed_in h ≡ false → Says h name found → found ≡ mapped entry_of (record_named (records_of h) name)
plain_says h name _ plain (dirs.Says.in_linear so) = refl
plain_says h name found plain (dirs.Says.in_hashed _ hashed fits leads) = absurd (true≢false (sym hashed ∙ plain))

pub named_plain : (h : Holding) (name : List ℕ) (e : Entry) → is_hashed_in h ≡ false → Says h name (Some e) → (r : Record) × (record_named (records_of h) name ≡ Some r)
named_plain h name e plain says = record_of_entry (record_named (records_of h) name) e (plain_says h name (Some e) plain says)

pub loses_plain : (v w : Seen) (dir : ℕ) (name : List ℕ) (leaf : ℕ) → IsWithoutName v w dir name leaf → (h : Holding) → IsShown v dir h → is_hashed_in h ≡ false → (e : Entry) → Says h name (Some e) → LosesName h (holding_over w h) name
loses_plain v w dir name leaf without h shown plain e says =
    let r = named_plain h name e plain says in
    record {
      gone = r.0;
      named = r.1;
      exchanged = without.removed h r.0 shown (λ hashed. absurd (true≢false (sym hashed ∙ plain))) r.1;
      kept = kept_over w h;
      in_linear = λ so. without.in_linear h shown so;
      in_hashed = λ hashed. absurd (true≢false (sym hashed ∙ plain));
    }

pub leaf_plain : (v : Seen) (dir : ℕ) (h : Holding) (name : List ℕ) (x : ℕ) → IsShown v dir h → is_hashed_in h ≡ false → HasRecordOf h name x → IsSome (h.cell x)
leaf_plain v dir h name _ shown plain (taking.HasRecordOf.in_linear so) = shown.inode.dinode
leaf_plain v dir h name x shown plain (taking.HasRecordOf.in_hashed y hashed leaf) = absurd (true≢false (sym hashed ∙ plain))

-- one whose content is the rest of its dinode's block has no pointers
no_leads : (h : Holding) → height_in h ≡ 0 → (b k level first c : ℕ) → Leads h b k level first c → ⊥
no_leads h flat _ _ _ _ _ (from_dinode k level high low some) = omega (arith, flat, high)
no_leads h flat _ _ _ _ _ (from_block b k level first c j leads low some) = no_leads h flat b k (suc level) first c leads

pub plain_shown : (w : Seen) (h : Holding) (dir : ℕ) → h.own ≡ dir → IsSome (h.cell h.own) → h.size ≡ w.size → is_hashed_in (holding_over w h) ≡ false → height_in (holding_over w h) ≡ 0 → IsShown w dir (holding_over w h)
plain_shown w h dir own some size plain flat = record {
  inode = record {
    own = own;
    size = size;
    dinode = over_there (w.block_at h.own) (h.cell h.own) ∙ some;
    led_to = λ b k level first c leads. absurd (no_leads (holding_over w h) flat b k level first c leads);
    same = as_seen w h;
  };
  leaves = λ hashed i place x chain more. absurd (true≢false (sym hashed ∙ plain));
  whole = λ hashed at. absurd (true≢false (sym hashed ∙ plain));
}

-- ---- the block with the record

-- it is one of the directory
pub leaf_there : (v : Seen) (dir : ℕ) (h : Holding) (name : List ℕ) (x : ℕ) → IsShown v dir h → IsSound h → HasRecordOf h name x → IsSome (h.cell x)
leaf_there v dir h name _ shown sound (taking.HasRecordOf.in_linear plain) = shown.inode.dinode
leaf_there v dir h name x shown sound (taking.HasRecordOf.in_hashed y hashed leaf) = by (Some x) leaf x refl
  where
    by : (found : Option ℕ) → IsLeafOfName h name found → (x : ℕ) → found ≡ Some x → IsSome (h.cell x)
    by _ (in_this place y r chain is later heads) x e = subst (λ b. IsSome (h.cell b)) (some_same e) (cell_some (h.cell y) _ (in_chain h sound hashed (index_for h name) place y chain))
    by _ (in_none ends later heads) x e = absurd (none_some e)

-- ---- another name is still there

name_test : (name : List ℕ) (records : List Record) (r : Record) → record_named records name ≡ Some r → Contains records r × (r.name ≡ name)
name_test name records r is =
    let found = find_some (λ (x : Record). bytes_eq name x.name) records r is in
    (contained r records found.0, sym ((bytes_eq-Decides name r.name).0 found.1))

not_first : (gone : Record) (rest : List Record) (r : Record) → Contains (gone ∷ rest) r → r ≢ gone → Contains rest r
not_first gone rest r there other = elim (is_in r (gone ∷ rest) there) [ inl same ↦ absurd (other same) | inr later ↦ contained r rest later ]

pub still_named : (h g : Holding) (gone name : List ℕ) (r : Record) → LosesName h g gone → name ≢ gone → record_named (records_of h) name ≡ Some r → record_named (records_of g) name ≡ None → ⊥
still_named h g gone name r lost other named none =
    let it = name_test name (records_of h) r named in
    let went = name_test gone (records_of h) lost.gone lost.named in
    let apart : r ≢ lost.gone = λ same. other (sym it.1 ∙ ap (λ (x : Record). x.name) same ∙ went.1) in
    let in_rest : Contains lost.exchanged.records.rest r = not_first lost.gone lost.exchanged.records.rest r
    (Contains-permutation (records_of h) ((lost.gone ∷ []) ++ lost.exchanged.records.rest) r lost.exchanged.records.before it.0) apart in
    let there : Contains (records_of g) r = Contains-permutation ([] ++ lost.exchanged.records.rest) (records_of g) r (IsPermutation-sym (records_of g) ([] ++ lost.exchanged.records.rest) lost.exchanged.records.after) in_rest in
    none_named (records_of g) name none r (is_in r (records_of g) there) it.1
