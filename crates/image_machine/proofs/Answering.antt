-- What the answer of a file call says of the machine's images.
use Rattle.std.proofs.Common.{◌≡◌, ◌⊎◌, ℕ, zero, suc, inl, inr, Bool, true, false, not, ◌&&◌, List, [], ◌∷◌, length, Option, None, Some, slice_get, refl, sym, ap, ◌∙◌, subst, arith}
use Rattle.std.specs.Prelude.{◌==◌, ◌||◌, is_some, nat_lt, unwrap_or, if◌then◌else◌}
use Rattle.std.specs.List.{list_any, AllByRecursion}
use Rattle.std.proofs.lemmas.Bool.{cases_lt, cases_Bool, cond-true, cond-false, eq-eqb, eqb-true, le-ltb, lt-ltb, true≢false}
use Rattle.file_tree.specs.Tree.{Tree}
use Rattle.file_tree.specs.Apply.{Answers, apply}
use Rattle.file_tree.specs.declared.call.Call.{Call}
use Rattle.file_tree.specs.declared.call.Call.TheVariants as calls
use Rattle.file_tree.specs.declared.reply.Reply.{Reply}
use Rattle.file_tree.specs.declared.reply.Reply.TheVariants as replies
use Rattle.cluster_history.specs.History.{after}
use Rattle.cluster_history.specs.Changes.{Changes}
use Rattle.cluster_history.proofs.Changing.{others_leave}
use Rattle.cluster_laws.specs.Files.{State, Ex, Tells}
use Rattle.cluster_laws.specs.Contents.{Did, HasInode, Tracked, WritesUnder, files_of, moved, written}
use Rattle.gfs2_layout.specs.Device.{superblock_place}
use Rattle.gfs2_layout.specs.declared.rindex.Rindex.{Rindex}
use Rattle.glock_names.specs.Views.{Seen}
use Rattle.glock_names.specs.declared.LockName.{LockName}
use Rattle.drafts.specs.declared.change.Change.{Change}
use Rattle.drafts.specs.declared.change.Written.{Written}
use Rattle.image_model.specs.Groups.{IsDataOf, IsListed, end_of}
use Rattle.image_model.specs.Image.{Image}
use Rattle.image_model.specs.Owners.{Free, InGroup, IsUsed, Nobody, Owner, Owners, Super, holding, is_dinode}
use Rattle.image_model.specs.Stands.{IsJournalAt, IsLaid, Layout}
use Rattle.image_model.proofs.Held.{none_some, some_same}
use Rattle.image_model.proofs.Table.{Lies, in_data, in_header, in_none, lies}
use Rattle.image_changes.specs.Changes.{Place, cover, inode_lock, is_free, place_of}
use Rattle.image_changes.specs.Does.{AreInside, Does, DoesIn, IsFreed, IsHeld, IsInside, IsOf, bytes_for, frees, has_block, is_empty, is_nothing, with_change, writes}
use Rattle.image_changes.specs.Instances.{StandsBy}
use Rattle.image_changes.proofs.Drafting.{free_group}
use Rattle.image_changes.proofs.Frame.{dinode_its, inode_cover}
use Rattle.image_changes.proofs.Unminded.{free_blocks_do_not_matter}
use Rattle.tree_histories.specs.Trees.{Told, rules_of}
use Rattle.image_machine.specs.Cells.{BlockCell, HasBlocksOf, HoldsAll, IsOfVolume, cells_of, free_cell, group_of, is_data_of, or_else, used_cell, written_cell}
use Rattle.image_machine.specs.Laws.{DoneIsAnswered, MissingIsNeeded, SpacelessIsAnswered, SyncIsAnswered}
use Rattle.image_machine.specs.Volumes.{HasItsPlaces, IsPlace, StandsAt, Volume, image_with, images_of, inode_at}
use Rattle.image_machine.proofs.Fitting.{all_whole, as_told, block_with}
use Rattle.image_machine.proofs.Unminded.{is_ring_place}

-- ---- the group of a free block

is_data : (g : Rindex) (b : ℕ) → ((is_data_of g b ≡ true) × IsDataOf g b) ⊎ ((is_data_of g b ≡ false) × (IsDataOf g b → ⊥))
is_data g b = elim (cases_lt b g.data0) [
  | inl under ↦ inr (ap (λ t. not t && nat_lt b (end_of g)) (lt-ltb b g.data0 under), λ is. absurd (omega (arith, under, is.low)))
  | inr over ↦ elim (cases_lt b (end_of g)) [
    | inl less ↦ inl (ap (λ t. not t && nat_lt b (end_of g)) (le-ltb b g.data0 over) ∙ lt-ltb b (end_of g) less, record { low = over; high = less })
    | inr more ↦ inr (ap (λ t. not t && nat_lt b (end_of g)) (le-ltb b g.data0 over) ∙ le-ltb b (end_of g) more, λ is. absurd (omega (arith, more, is.high)))
  ]
]

free_free : (x y : ℕ) → Free x ≡ Free y → x ≡ y
free_free x y e = cc

used_free : (o : Owner) (x : ℕ) → o ≡ Free x → IsUsed o → ⊥
used_free o x e used = subst IsUsed e used

in_list : (gs : List Rindex) (o : Owner) (b x : ℕ) → o ≡ Free x → ((g : Rindex) → IsListed gs g → IsDataOf g b → (o ≡ Free g.address) ⊎ IsUsed o) → (g : Rindex) (i : ℕ) → slice_get gs i ≡ Some g → IsDataOf g b → group_of gs b ≡ x
in_list [] o b x row each g i at is = absurd (none_some at)
in_list (h ∷ gs) o b x row each g i at is = elim (is_data h b) [
  | inl here ↦ cond-true _ h.address (group_of gs b) here.0 ∙ elim (each h (0, refl) here.1) [
    | inl free ↦ free_free h.address x (sym free ∙ row)
    | inr used ↦ absurd (used_free o x row used)
  ]
  | inr away ↦ cond-false _ h.address (group_of gs b) away.0 ∙ later i at away.1 (λ k e. in_list gs o b x row (λ m at'. each m (suc at'.0, at'.1)) g k e is)
]
  where
    later : (i : ℕ) → slice_get (h ∷ gs) i ≡ Some g → (IsDataOf h b → ⊥) → ((k : ℕ) → slice_get gs k ≡ Some g → group_of gs b ≡ x) → group_of gs b ≡ x
    later zero e not rest = absurd (not (subst (λ k. IsDataOf k b) (sym (some_same e)) is))
    later (suc k) e not rest = rest k e

-- a free block is one of the group in whose data blocks it lies
its_group : (im : Image) (o : Owners) (l : Layout) → IsLaid im o l → (b x : ℕ) → o b ≡ Free x → group_of l.groups b ≡ x
its_group im o l laid b x row = by (lies l.groups b)
  where
    no_header : (g : ℕ) → InGroup g ≡ Free x → ⊥
    no_header g e = cc

    no_super : Super ≡ Free x → ⊥
    no_super e = cc

    no_nobody : Nobody ≡ Free x → ⊥
    no_nobody e = cc

    by : Lies l.groups b → group_of l.groups b ≡ x
    by (in_header g at is) = absurd (no_header g.address (sym (laid.zoned.headers g at b is) ∙ row))
    by (in_data g at is) = in_list l.groups (o b) b x row (λ h at' is'. laid.zoned.data_blocks h at' b is') g at.0 at.1 is
    by (in_none none) = elim (cases_lt (superblock_place im.size) b) [
      | inl above ↦ absurd (no_nobody (sym (laid.zoned.between b above none) ∙ row))
      | inr low ↦ absurd (no_super (sym (laid.zoned.low b low) ∙ row))
    ]

-- ---- what a change has of a block

data Look (ws : List Written) (locks : List LockName) (b : ℕ) : Type 0 where
  found : (i : ℕ) (w : Written) (lock : LockName) → slice_get ws i ≡ Some w → slice_get locks i ≡ Some lock → w.block ≡ b → bytes_for ws b ≡ Some w.bytes
      → written_cell ws locks b ≡ Some (used_cell w.bytes lock) → Look ws locks b
  missing : bytes_for ws b ≡ None → written_cell ws locks b ≡ None → Look ws locks b

look : (ws : List Written) (locks : List LockName) (b : ℕ) → length locks ≡ length ws → Look ws locks b
look [] locks b long = missing refl refl
look (w ∷ ws) [] b long = absurd (omega (arith, long))
look (w ∷ ws) (k ∷ ks) b long = by (w.block == b) refl (look ws ks b (omega (arith, long)))
  where
    by : (t : Bool) → (w.block == b) ≡ t → Look ws ks b → Look (w ∷ ws) (k ∷ ks) b
    by true here rest = found 0 w k refl refl (eqb-true w.block b here) (cond-true _ (Some w.bytes) (bytes_for ws b) here) (cond-true _ (Some (used_cell w.bytes k)) (written_cell ws ks b) here)
    by false away (found i u lock at at' same e f) =
        found (suc i) u lock at at' same (cond-false _ (Some w.bytes) (bytes_for ws b) away ∙ e) (cond-false _ (Some (used_cell w.bytes k)) (written_cell ws ks b) away ∙ f)
    by false away (missing e f) = missing (cond-false _ (Some w.bytes) (bytes_for ws b) away ∙ e) (cond-false _ (Some (used_cell w.bytes k)) (written_cell ws ks b) away ∙ f)

place_inside : (seen : Seen) (ws : List Written) (i : ℕ) (w : Written) → AllByRecursion (IsInside seen) ws → slice_get ws i ≡ Some w → IsInside seen w
place_inside seen [] i w all at = absurd (none_some at)
place_inside seen (u ∷ ws) zero w all at = subst (IsInside seen) (some_same at) all.0
place_inside seen (u ∷ ws) (suc i) w all at = place_inside seen ws i w all.1 at

-- the block is written, with its place in the change; or freed; or the change hasn't it
pub data Drawn (v : Volume) (change : Change) (b : ℕ) : Type 0 where
  wrote : (i : ℕ) (w : Written) (lock : LockName) → slice_get change.blocks.items i ≡ Some w → slice_get change.locks.items i ≡ Some lock → w.block ≡ b
      → bytes_for change.blocks.items b ≡ Some w.bytes → cells_of v change b ≡ Some (used_cell w.bytes lock) → Drawn v change b
  freed : bytes_for change.blocks.items b ≡ None → frees change b ≡ true → cells_of v change b ≡ Some (free_cell (group_of v.layout.groups b)) → Drawn v change b
  untouched : bytes_for change.blocks.items b ≡ None → frees change b ≡ false → cells_of v change b ≡ None → Drawn v change b

pub drawn : (v : Volume) (change : Change) → length change.locks.items ≡ length change.blocks.items → (b : ℕ) → Drawn v change b
drawn v change long b = by (look change.blocks.items change.locks.items b long)
  where
    by : Look change.blocks.items change.locks.items b → Drawn v change b
    by (found i w lock at at' same e f) = wrote i w lock at at' same e (ap (λ x. or_else x (if frees change b then Some (free_cell (group_of v.layout.groups b)) else None)) f)
    by (missing e f) = elim (cases_Bool (frees change b)) [
      | inl gone ↦ freed e gone
          (ap (λ x. or_else x (if frees change b then Some (free_cell (group_of v.layout.groups b)) else None)) f ∙ cond-true _ (Some (free_cell (group_of v.layout.groups b))) None gone)
      | inr kept ↦ untouched e kept
          (ap (λ x. or_else x (if frees change b then Some (free_cell (group_of v.layout.groups b)) else None)) f ∙ cond-false _ (Some (free_cell (group_of v.layout.groups b))) None kept)
    ]

some_true : {A : Type 0} (o : Option A) (a : A) → o ≡ Some a → is_some o ≡ true
some_true o a e = ap is_some e

or_true : (p : Bool) → (p || true) ≡ true
or_true true = refl
or_true false = refl

wrote_has : (change : Change) (b : ℕ) (bytes : List ℕ) → bytes_for change.blocks.items b ≡ Some bytes → has_block change b ≡ true
wrote_has change b bytes e = ap (λ t. t || frees change b) (ap is_some e)

freed_has : (change : Change) (b : ℕ) → frees change b ≡ true → has_block change b ≡ true
freed_has change b e = ap (λ t. writes change b || t) e ∙ or_true (writes change b)

untouched_has : (change : Change) (b : ℕ) → bytes_for change.blocks.items b ≡ None → frees change b ≡ false → has_block change b ≡ false
untouched_has change b e f = λ i. is_some (e i) || f i

-- ---- a change that is empty, and one that isn't

empty_is : {X : Type 0} (xs : List X) → is_empty xs ≡ true → xs ≡ []
empty_is [] e = refl
empty_is (x ∷ xs) e = absurd (true≢false (sym e))

both : (a b : Bool) → (a && b) ≡ true → (a ≡ true) × (b ≡ true)
both true b e = (refl, e)
both false b e = absurd (true≢false (sym e))

some_block : (change : Change) → is_nothing change ≡ false → (b : ℕ) × (has_block change b ≡ true)
some_block change e = of_blocks change.blocks.items refl e
  where
    of_freed : (fs : List ℕ) → change.freed.items ≡ fs → is_empty fs ≡ false → (b : ℕ) × (has_block change b ≡ true)
    of_freed [] same e = absurd (true≢false e)
    of_freed (f ∷ fs) same e = (f, freed_has change f (ap (list_any (λ x. x == f)) same ∙ ap (λ t. t || list_any (λ x. x == f) fs) (eq-eqb f f refl)))

    of_blocks : (ws : List Written) → change.blocks.items ≡ ws → (is_empty ws && is_empty change.freed.items) ≡ false → (b : ℕ) × (has_block change b ≡ true)
    of_blocks [] same e = of_freed change.freed.items refl e
    of_blocks (w ∷ ws) same e =
        (w.block, wrote_has change w.block w.bytes (ap (λ us. bytes_for us w.block) same ∙ cond-true (w.block == w.block) (Some w.bytes) (bytes_for ws w.block) (eq-eqb w.block w.block refl)))

tells : (v : Volume) (change : Change) (client : ℕ) (call : Call) (reply : Reply) → length change.locks.items ≡ length change.blocks.items
    → is_nothing change ≡ not (Changes (record { call = call; reply = reply }))
    → Tells (files_of (rules_of (images_of v))) (record { client = client; call = call; reply = reply }) (cells_of v change)
tells v change client call reply long same = record { empty = empty; some = some }
  where
    empty : Changes (record { call = call; reply = reply }) ≡ false → (b : ℕ) → cells_of v change b ≡ None
    empty none b =
        let e = both (is_empty change.blocks.items) (is_empty change.freed.items) (same ∙ ap not none) in
        λ i. or_else (written_cell (empty_is change.blocks.items e.0 i) change.locks.items b)
        (if list_any (λ f. f == b) (empty_is change.freed.items e.1 i) then Some (free_cell (group_of v.layout.groups b)) else None)

    its_cell : (b : ℕ) → has_block change b ≡ true → Drawn v change b → (y : BlockCell) × (cells_of v change b ≡ Some y)
    its_cell b has (wrote i w lock at at' e f g) = (used_cell w.bytes lock, g)
    its_cell b has (freed e f g) = (free_cell (group_of v.layout.groups b), g)
    its_cell b has (untouched e f g) = absurd (true≢false (sym has ∙ untouched_has change b e f))

    some : Changes (record { call = call; reply = reply }) ≡ true → (b : ℕ) × (y : BlockCell) × (cells_of v change b ≡ Some y)
    some is =
        let b = some_block change (same ∙ ap not is) in
        let y = its_cell b.0 b.1 (drawn v change long b.0) in
        (b.0, y.0, y.1)

-- ---- the tree after

tree_after : (call : Call) (t : Tree) (reply : Reply) → (apply call t).reply ≡ reply → (apply call t).tree ≡ after (record { call = call; reply = reply }) t
tree_after call t replies.NoSpace e = others_leave call replies.NoSpace t (apply call t).tree (inl (λ i. record { reply = e i; tree = (apply call t).tree })) refl
tree_after call t _ e = refl

-- ---- journals have no lock

listed : (ds : List ℕ) (j d : ℕ) → slice_get ds j ≡ Some d → list_any (λ x. x == d) ds ≡ true
listed [] j d at = absurd (none_some at)
listed (c ∷ ds) zero d at = ap (λ t. t || list_any (λ x. x == d) ds) (eq-eqb c d (some_same at))
listed (c ∷ ds) (suc j) d at = ap (λ t. (c == d) || t) (listed ds j d at) ∙ or_true (c == d)

no_lock : (l : Layout) (j d : ℕ) → IsJournalAt l j d → inode_lock l d ≡ None
no_lock l j d at = cond-true _ None (Some (record { kind = 2; number = d })) (listed l.journals j d at)

own_lock : (l : Layout) (a : ℕ) (lock : LockName) → inode_lock l a ≡ Some lock → inode_lock l a ≡ inode_at a
own_lock l a lock = by (list_any (λ d. d == a) l.journals)
  where
    by : (t : Bool) → (if t then None else Some (record { kind = 2; number = a })) ≡ Some lock → (if t then None else Some (record { kind = 2; number = a })) ≡ inode_at a
    by true e = absurd (none_some e)
    by false e = refl

-- ---- an image that the view may be of

module _ (v : Volume) (seen : Seen) (view : ℕ → Option BlockCell) (is : IsOfVolume v seen) (has : HasBlocksOf seen view) (c : ℕ → List ℕ) (at : ℕ → Place) (t : Tree)
    (agrees : (b : ℕ) (x : BlockCell) → view b ≡ Some x → c b ≡ x.content) (s : StandsAt v c at t) where
  is_of : IsOf seen (image_with v c) s.owners v.layout t
  is_of = record {
    size = is.size;
    root = is.root;
    groups = is.groups;
    agrees = λ b bytes e. (let h = has b bytes e in as_told v c b bytes (agrees b h.0 h.1 ∙ h.2) (is.view.whole b bytes e ∙ sym is.size));
    stands = s.stands;
  }

  module _ (held : Option LockName → State) (client : ℕ) (call : Call) (reply : Reply) (change : Change) (holds : HoldsAll seen held) (inside : AreInside seen change) (does : Does seen call reply change) where
    abbrev d : DoesIn seen call reply change (image_with v c) s.owners v.layout t
    d = does.images (image_with v c) s.owners v.layout t is_of

    cell : (b : ℕ) → Drawn v change b
    cell = drawn v change does.form.locks

    abbrev cells : ℕ → Option BlockCell
    cells = cells_of v change

    -- the contents afterwards
    abbrev c' : ℕ → List ℕ
    c' b = written (cells b) (c b)

    abbrev drafted : Image
    drafted = with_change (image_with v c) change

    bytes : (b : ℕ) → ((image_with v c').at b ≡ drafted.at b) ⊎ ((g : ℕ) × (d.owners b ≡ Free g))
    bytes b = by (cell b)
      where
        by : Drawn v change b → ((image_with v c').at b ≡ drafted.at b) ⊎ ((g : ℕ) × (d.owners b ≡ Free g))
        by (wrote i w lock there told same e f) =
            inl (as_told v c' b w.bytes (ap (λ x. written x (c b)) f) ((place_inside seen change.blocks.items i w inside there).whole ∙ sym is.size) ∙ sym (ap (λ x. unwrap_or x ((image_with v c).at b)) e))
        by (freed e gone f) = inr (free_group (d.owners b) (d.freed b gone).free)
        by (untouched e kept f) = inl (block_with v c c' b (sym (ap (λ x. written x (c b)) f)) ∙ sym (ap (λ x. unwrap_or x ((image_with v c).at b)) e))

    still : StandsBy (image_with v c') d.owners v.layout (apply call t).tree × ((a : ℕ) → holding (image_with v c') d.owners a ≡ holding drafted d.owners a)
    still = free_blocks_do_not_matter drafted (image_with v c') d.owners v.layout (apply call t).tree (record { size = refl; count = refl; whole = all_whole v c' }) bytes d.stands

    super : (image_with v c').at (superblock_place v.size) ≡ drafted.at (superblock_place v.size)
    super = elim (bytes (superblock_place v.size)) [ inl e ↦ e | inr free ↦ absurd (no free.0 (sym row ∙ free.1)) ]
      where
        row : d.owners (superblock_place v.size) ≡ Super
        row = d.stands.laid.zoned.low (superblock_place v.size) (omega arith)

        no : (g : ℕ) → Super ≡ Free g → ⊥
        no g e = cc

    -- of a written block, and of a freed one
    written_is : (b i : ℕ) (w : Written) (lock : LockName) → slice_get change.blocks.items i ≡ Some w → slice_get change.locks.items i ≡ Some lock → w.block ≡ b
        → (cover v.layout b (d.owners b) ≡ Some lock) × (is_free (d.owners b) ≡ false) × ((cover v.layout b (s.owners b) ≡ Some lock) ⊎ (is_free (s.owners b) ≡ true))
    written_is b i w lock there told same =
        let k = d.written i w lock there told in (
          subst (λ z. cover v.layout z (d.owners z) ≡ Some lock) same k.told,
          subst (λ z. is_free (d.owners z) ≡ false) same k.used,
          subst (λ z. (cover v.layout z (s.owners z) ≡ Some lock) ⊎ (is_free (s.owners z) ≡ true)) same k.stayed,
        )

    group_lock : (b : ℕ) → frees change b ≡ true → cover v.layout b (d.owners b) ≡ Some (record { kind = 3; number = group_of v.layout.groups b })
    group_lock b gone =
        let g = free_group (d.owners b) (d.freed b gone).free in
        ap (cover v.layout b) g.1 ∙ ap (λ n. Some (record { kind = 3; number = n })) (sym (its_group drafted d.owners v.layout d.stands.laid b g.0 g.1))

    -- each block belongs where it is told
    placed : (b : ℕ) → moved (cells b) (at b) ≡ place_of v.layout d.owners b
    placed b = by (cell b)
      where
        by : Drawn v change b → moved (cells b) (at b) ≡ place_of v.layout d.owners b
        by (wrote i w lock there told same e f) =
            let k = written_is b i w lock there told same in
            ap (λ x. moved x (at b)) f ∙ (λ i. record { lock = sym k.0 i; free = sym k.1 i })
        by (freed e gone f) = ap (λ x. moved x (at b)) f ∙ (λ i. record { lock = sym (group_lock b gone) i; free = sym (d.freed b gone).free i })
        by (untouched e kept f) = ap (λ x. moved x (at b)) f ∙ s.told b ∙ sym (d.others b (untouched_has change b e kept))

    stands_after : StandsAt v c' (λ b. moved (cells b) (at b)) (after (record { call = call; reply = reply }) t)
    stands_after = record {
      owners = d.owners;
      stands = subst (StandsBy (image_with v c') d.owners v.layout) (tree_after call t reply d.replies) still.0;
      told = placed;
      superblock = super ∙ d.system.superblock ∙ s.superblock;
      rings = λ j k there. subst (HasItsPlaces v k) (sym (still.1 k ∙ d.system.rings j k there)) (s.rings j k there);
    }

    -- ---- locks

    has_it : (b : ℕ) (y : BlockCell) → cells b ≡ Some y → has_block change b ≡ true
    has_it b y e = by (cell b)
      where
        by : Drawn v change b → has_block change b ≡ true
        by (wrote i w lock there told same f g) = wrote_has change b w.bytes f
        by (freed f gone g) = freed_has change b gone
        by (untouched f kept g) = absurd (none_some (sym g ∙ e))

    its_lock : (o : Owners) (b : ℕ) → IsHeld seen v.layout o b → held (cover v.layout b (o b)) ≡ Ex
    its_lock o b h = ap held h.1 ∙ holds h.0 h.2

    was_under : (b : ℕ) → (at b).lock ≡ cover v.layout b (s.owners b)
    was_under b = ap (λ (p : Place). p.lock) (s.told b)

    its_place : (b : ℕ) (y : BlockCell) → cells b ≡ Some y → y.place ≡ place_of v.layout d.owners b
    its_place b y e = ap (λ x. moved x (at b)) (sym e) ∙ placed b

    is_under : (b : ℕ) (y : BlockCell) → cells b ≡ Some y → (y.place).lock ≡ cover v.layout b (d.owners b)
    is_under b y e = ap (λ (p : Place). p.lock) (its_place b y e)

    before : (b : ℕ) (y : BlockCell) → cells b ≡ Some y → held (at b).lock ≡ Ex
    before b y e = ap held (was_under b) ∙ its_lock s.owners b (d.before b (has_it b y e))

    behind : (b : ℕ) (y : BlockCell) → cells b ≡ Some y → held (y.place).lock ≡ Ex
    behind b y e = ap held (is_under b y e) ∙ its_lock d.owners b (d.after b (has_it b y e))

    -- ---- which locks are touched

    under : (n : ℕ) → writes change n ≡ true → WritesUnder (rules_of (images_of v)) cells (cover v.layout n (d.owners n))
    under n wrote_it = by (cell n)
      where
        by : Drawn v change n → WritesUnder (rules_of (images_of v)) cells (cover v.layout n (d.owners n))
        by (wrote i w lock there told same e f) = (n, used_cell w.bytes lock, f, (λ is_so. true≢false (sym is_so)), sym (written_is n i w lock there told same).0)
        by (freed e gone f) = absurd (true≢false (sym wrote_it ∙ ap is_some e))
        by (untouched e kept f) = absurd (true≢false (sym wrote_it ∙ ap is_some e))

    -- of a group of which a block is taken or freed
    of_group : (b g : ℕ) → has_block change b ≡ true → (s.owners b ≡ Free g) ⊎ (d.owners b ≡ Free g) → WritesUnder (rules_of (images_of v)) cells (Some (record { kind = 3; number = g }))
    of_group b g has_b which =
        let n = d.groups b g has_b which in
        subst (WritesUnder (rules_of (images_of v)) cells) (ap (cover v.layout n.0) n.2) (under n.0 n.1)

    -- the inode of a freed block
    of_inode : (b : ℕ) → frees change b ≡ true → HasInode (rules_of (images_of v)) cells (at b).lock
    of_inode b gone = by (cell f.inode) f.dinode
      where
        f : IsFreed (writes change) (frees change) s.owners d.owners b
        f = d.freed b gone

        held_here : IsHeld seen v.layout s.owners b
        held_here = d.before b (freed_has change b gone)

        its : inode_lock v.layout f.inode ≡ inode_at f.inode
        its = own_lock v.layout f.inode held_here.0 (sym (inode_cover v.layout b (s.owners b) f.inode f.was) ∙ held_here.1)

        was : (at b).lock ≡ inode_at f.inode
        was = was_under b ∙ inode_cover v.layout b (s.owners b) f.inode f.was ∙ its

        by : Drawn v change f.inode → (frees change f.inode ≡ true) ⊎ ((writes change f.inode ≡ true) × (is_dinode (d.owners f.inode) ≡ true)) → HasInode (rules_of (images_of v)) cells (at b).lock
        by (freed e gone' g) which = (f.inode, free_cell (group_of v.layout.groups f.inode), g, was, inl refl)
        by (wrote i w lock there told same e g) (inr which) = (
          f.inode,
          used_cell w.bytes lock,
          g,
          was,
          inr ((λ is_so. true≢false (sym is_so)), sym (written_is f.inode i w lock there told same).0 ∙ inode_cover v.layout f.inode (d.owners f.inode) f.inode (dinode_its f.inode (d.owners f.inode) which.1) ∙ its),
        )
        by (wrote i w lock there told same e g) (inl gone') = absurd (true≢false (sym (ap is_some e) ∙ does.form.apart f.inode gone'))
        by (untouched e kept g) (inl gone') = absurd (true≢false (sym gone' ∙ kept))
        by (untouched e kept g) (inr which) = absurd (true≢false (sym which.0 ∙ ap is_some e))

    tracked : (b : ℕ) (y : BlockCell) → cells b ≡ Some y → Tracked (rules_of (images_of v)) cells (at b).lock y.place
    tracked b y e = by (cell b)
      where
        by : Drawn v change b → Tracked (rules_of (images_of v)) cells (at b).lock y.place
        by (freed f gone g) =
            let free = (d.freed b gone).free in
            let row = free_group (d.owners b) free in
            inl (
              ap (λ (p : Place). p.free) (its_place b y e) ∙ free,
              of_inode b gone,
              subst (WritesUnder (rules_of (images_of v)) cells) (sym (is_under b y e ∙ ap (cover v.layout b) row.1)) (of_group b row.0 (freed_has change b gone) (inr row.1)),
            )
        by (wrote i w lock there told same f g) =
            let k = written_is b i w lock there told same in
            inr (
              (λ is_so. true≢false (sym is_so ∙ ap (λ (p : Place). p.free) (its_place b y e) ∙ k.1)),
              elim k.2 [
                | inl stays ↦ inl (was_under b ∙ stays ∙ sym k.0 ∙ sym (is_under b y e))
                | inr was_free ↦
                    let row = free_group (s.owners b) was_free in
                    inr (subst (WritesUnder (rules_of (images_of v)) cells) (sym (was_under b ∙ ap (cover v.layout b) row.1)) (of_group b row.0 (wrote_has change b w.bytes f) (inl row.1)))
              ],
            )
        by (untouched f kept g) = absurd (none_some (sym g ∙ e))

    -- no block of a change is a place of a ring: no lock covers it
    no_place : (b : ℕ) (y : BlockCell) → cells b ≡ Some y → IsPlace v b → ⊥
    no_place b y e place =
        let ring = is_ring_place v c at t s b place in
        let held_here = d.before b (has_it b y e) in
        none_some (sym (ap (cover v.layout b) ring.6 ∙ no_lock v.layout ring.0 ring.1 ring.5) ∙ held_here.1)

    did : Did (rules_of (images_of v)) held (record { client = client; call = call; reply = reply }) cells c at t
    did = record {
      stands = stands_after;
      answers = inl (λ i. record { reply = d.replies i; tree = tree_after call t reply d.replies i });
      before = before;
      behind = behind;
      tracked = tracked;
      rings = no_place;
    }

pub done_is_answered : DoneIsAnswered
done_is_answered v seen view held client call reply change is has holds inside does = (
  tells v change client call reply does.form.locks does.tells,
  λ c at t agrees s. did v seen view is has c at t agrees s held client call reply change holds inside does,
)

-- ---- an answer that changes nothing

nothing_done : (v : Volume) (held : Option LockName → State) (said : Told) (c : ℕ → List ℕ) (at : ℕ → Place) (t : Tree)
    → StandsAt v c at (after (record { call = said.call; reply = said.reply }) t) → Answers said.call t said.reply (after (record { call = said.call; reply = said.reply }) t)
    → Did (rules_of (images_of v)) held said (λ b. None) c at t
nothing_done v held said c at t s answers = record {
  stands = s;
  answers = answers;
  before = λ b y e. absurd (none_some e);
  behind = λ b y e. absurd (none_some e);
  tracked = λ b y e. absurd (none_some e);
  rings = λ b y e place. none_some e;
}

pub spaceless_is_answered : SpacelessIsAnswered
spaceless_is_answered v seen view held client call is has takes taken = (
  record { empty = λ none b. refl; some = λ e. absurd (true≢false (sym e)) },
  λ c at t agrees s. nothing_done v held (record { client = client; call = call; reply = replies.NoSpace }) c at t s
      (inr (record { no_room = refl; same = refl; taken = taken (image_with v c) s.owners v.layout t (is_of v seen view is has c at t agrees s); takes = takes })),
)

pub sync_is_answered : SyncIsAnswered
sync_is_answered v view held client = (
  record { empty = λ none b. refl; some = λ e. absurd (true≢false (sym e)) },
  λ c at t agrees s. nothing_done v held (record { client = client; call = calls.Sync; reply = replies.Ok }) c at t s (inl refl),
)

pub missing_is_needed : MissingIsNeeded
missing_is_needed v seen view block lock is has each c at t agrees s =
    let e = each (image_with v c) s.owners v.layout t (is_of v seen view is has c at t agrees s) in (
      ap (λ (p : Place). p.lock) (s.told block) ∙ e.0,
      λ free. true≢false (sym free ∙ ap (λ (p : Place). p.free) (s.told block) ∙ e.1),
    )
