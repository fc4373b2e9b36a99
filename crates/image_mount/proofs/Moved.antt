-- What a call over a disk tells, in the words of what the disk held before.
use Rattle.std.proofs.Common.{◌≡◌, inl, inr, ℕ, zero, suc, ◌+◌, ◌<◌, List, [], ◌∷◌, ◌++◌, length, take, get_or, Some, sym, ap, subst, ◌∙◌, arith}
use Rattle.std.specs.Prelude.{codes, map, Contains, slice_get}
use Rattle.std.specs.List.{All}
use Rattle.std.proofs.lemmas.Option.{slice_get-get_or, slice_get_within, get_or_from_slice_get}
use Rattle.std.proofs.lemmas.List.{map-append}
use Rattle.std.proofs.lemmas.List.Elements.{All-push}
use Rattle.gfs2_layout.specs.Device.{superblock_place}
use Rattle.gfs2_layout.specs.declared.superblock.SuperBlock.{SuperBlock}
use Rattle.image_mount.specs.Found.{IsReached}
use Rattle.image_mount.specs.declared.listing.Link.{Link}
use Rattle.image_model.specs.Claims.{Claims, master, master_of}
use Rattle.image_model.specs.Image.{Image}
use Rattle.image_model.specs.Journals.{journal_name}
use Rattle.image_model.specs.Owners.{Master, Named}
use Rattle.image_model.specs.Rules.{two_owners}
use Rattle.image_model.specs.Stands.{IsJournalAt}
use Rattle.shared_disk.specs.Disk.{DiskState}
use Rattle.image_mount.specs.Refusals.{IsJournalSized, RefusesRightly}
use Rattle.image_mount.specs.Rings.{IsJournalIn, IsNext, HasPlaces, AreBlocksOf, IsOwn, IsRingOf, AreRings}
use Rattle.image_mount.specs.Searching.{IsWorking}
use Rattle.image_mount.specs.Looks.{IsTrueEntry}
use Rattle.image_mount.specs.Marked.{IsGrown}
use Rattle.image_mount.specs.System.{HasDinodes, IsSystemOf, layout_of}
use Rattle.image_mount.specs.Kept.{Kept, bytes_of}
use Rattle.image_mount.specs.declared.fault.MountFault.{MountFault}
use Rattle.image_mount.specs.declared.fault.MountFault.TheVariants as fault
use Rattle.image_mount.specs.declared.journals.Ring.{Ring}
use Rattle.image_mount.specs.declared.system.System.{System}
use Rattle.image_mount.proofs.Causes.{told}
use Rattle.image_model.proofs.JournalNames.{one_number}
use Rattle.image_mount.proofs.Names.{all_at, contains_at, mapped_at, from_mapped, taken_at}

-- the dinodes that were kept stay
pub stay_kept : (im : Image) (a b : Kept) (s : System) → IsGrown a b → HasDinodes im a s → HasDinodes im b s
stay_kept im a b s grown has = record { master = grown.stays (master_of im) has.master; rindex = grown.stays s.rindex has.rindex; jindex = grown.stays s.jindex has.jindex }

-- a block that is marked is kept as it was
pub working_marked : (s : DiskState) (k new : Kept) → IsWorking s k → new.entries ≡ k.entries → new.size ≡ k.size → IsWorking s new
working_marked s k new work entries size = record {
  idle = work.idle;
  size = size ∙ work.size;
  count = ap length entries ∙ work.count;
  same = λ tells b bytes at. work.same tells b bytes (ap (λ es. bytes_of (slice_get es b)) (sym entries) ∙ at);
}

-- the blocks at all its places are a journal's ring
pub ring_is : (im : Image) (d places : ℕ) (blocks : List ℕ) → HasPlaces im d places → AreBlocksOf im d places blocks → IsRingOf im d blocks
ring_is im d places blocks has are = record { places = subst (HasPlaces im d) has.count has; are = subst (λ n. AreBlocksOf im d n blocks) has.count are }

-- ---- a journal that is looked for

-- a journal whose ring was found is as large as it may be
pub ring_sized : (im : Image) (rings : List Ring) (i d : ℕ) → All (λ (r : Ring). IsRingOf im r.dinode r.blocks.items) rings → slice_get (map (λ (r : Ring). r.dinode) rings) i ≡ Some d → IsJournalSized im d
ring_sized im rings i d all at =
    let ring = from_mapped (λ (r : Ring). r.dinode) rings i d at in
    let of = all_at (λ (r : Ring). IsRingOf im r.dinode r.blocks.items) rings i ring.0 all ring.1 in
    subst (IsJournalSized im) ring.2 (of.places.least, of.places.most)

-- so are those before the next
sized_before : (im : Image) (system : System) (j i d : ℕ) (rings : List Ring) → AreRings im (take j system.journals.items) rings → i < j → IsJournalAt (layout_of system) i d → IsJournalSized im d
sized_before im system j i d rings are low at =
    let entry = from_mapped (λ (e : Link). e.entry.addr) system.journals.items i d at in
    ring_sized im rings i d are.each
    (ap (λ ds. slice_get ds i) are.dinodes ∙ mapped_at (λ (e : Link). e.entry.addr) (take j system.journals.items) i entry.0 (taken_at system.journals.items j i entry.0 low entry.1) ∙ ap Some entry.2)

pub journal_in : (im : Image) (system : System) (j : ℕ) (entry : Link) (rings : List Ring) → IsSystemOf im system → AreRings im (take j system.journals.items) rings → slice_get system.journals.items j ≡ Some entry
    → IsJournalIn im entry
journal_in im system j entry rings looked are at = record {
  layout = layout_of system;
  names = looked.names;
  index = j;
  before = λ i d low there. sized_before im system j i d rings are low there;
  at = mapped_at (λ (e : Link). e.entry.addr) system.journals.items j entry at;
  named = looked.journals.each j entry at;
}

pub next_in : (im : Image) (system : System) (j : ℕ) (entry : Link) (rings : List Ring) (done : List ℕ) → IsSystemOf im system → AreRings im (take j system.journals.items) rings → slice_get system.journals.items j ≡ Some entry → IsOwn system entry.entry.addr
    → ¬ (Contains done entry.entry.addr) → IsNext im done system entry
next_in im system j entry rings done looked are at own new = record {
  looked = looked;
  named = journal_in im system j entry rings looked are at;
  plain = λ file. elim file [
    | inl list ↦ own.rindex (looked.one_rindex entry.entry.addr list)
    | inr more ↦ elim more [
      | inl same ↦ own.master (same ∙ sym (ap (λ (s : SuperBlock). s.master.address) looked.superblock))
      | inr journals ↦ own.jindex (looked.one_jindex entry.entry.addr journals)
    ]
  ];
  new = new;
}

same_name : (a b : ℕ) (x y : List ℕ) → Named a x ≡ Named b y → x ≡ y
same_name a b x y e = cc

pub twice_master : (im : Image) (system : System) (j : ℕ) (entry : Link) (f : MountFault) → IsSystemOf im system → slice_get system.journals.items j ≡ Some entry
    → entry.entry.addr ≡ system.superblock.master.address → f ≡ fault.Damaged entry.entry.addr 3 → RefusesRightly im f
twice_master im system j entry f looked at same is =
    let there : entry.entry.addr ≡ master_of im = same ∙ ap (λ (s : SuperBlock). s.master.address) looked.superblock in
    let claim = subst (λ b. Claims im (superblock_place im.size) b Master) (sym there) master in
    told im f entry.entry.addr 3 is looked.names.groups.list.master.format (subst (IsReached im) (sym same) looked.master_reached)
    (two_owners entry.entry.addr entry.from (superblock_place im.size) (Named system.jindex (journal_name j)) Master (looked.journals.each j entry at).claimed claim (λ e. no_name e) (λ one. one))
  where
    no_name : Named system.jindex (journal_name j) ≡ Master → ⊥
    no_name e = cc

pub twice_list : (im : Image) (system : System) (j : ℕ) (entry : Link) (f : MountFault) → IsSystemOf im system → slice_get system.journals.items j ≡ Some entry → entry.entry.addr ≡ system.rindex
    → f ≡ fault.Damaged entry.entry.addr 3 → RefusesRightly im f
twice_list im system j entry f looked at same is =
    let list = looked.names.groups.list.master.rindex in
    let claim = subst (λ b. Claims im list.0 b (Named (master_of im) (codes "rindex"))) (sym same) list.1 in
    told im f entry.entry.addr 3 is looked.names.groups.list.master.format (subst (IsReached im) (sym same) looked.rindex_reached)
    (two_owners entry.entry.addr entry.from list.0 (Named system.jindex (journal_name j)) (Named (master_of im) (codes "rindex")) (looked.journals.each j entry at).claimed claim
    (λ e. absurd (omega (arith, ap (λ name. get_or name 0 0) (same_name system.jindex (master_of im) (journal_name j) (codes "rindex") e)))) (λ one. one))

pub twice_jindex : (im : Image) (system : System) (j : ℕ) (entry : Link) (f : MountFault) → IsSystemOf im system → slice_get system.journals.items j ≡ Some entry → entry.entry.addr ≡ system.jindex
    → f ≡ fault.Damaged entry.entry.addr 3 → RefusesRightly im f
twice_jindex im system j entry f looked at same is =
    let file = looked.names.groups.list.master.jindex in
    let claim = subst (λ b. Claims im file.0 b (Named (master_of im) (codes "jindex"))) (sym same) file.1 in
    told im f entry.entry.addr 3 is looked.names.groups.list.master.format (subst (IsReached im) (sym same) looked.jindex_reached)
    (two_owners entry.entry.addr entry.from file.0 (Named system.jindex (journal_name j)) (Named (master_of im) (codes "jindex")) (looked.journals.each j entry at).claimed claim
    (λ e. absurd (omega (arith, ap (λ name. get_or name 1 0) (same_name system.jindex (master_of im) (journal_name j) (codes "jindex") e)))) (λ one. one))

got_taken : {X : Type 0} (xs : List X) (n i : ℕ) (x : X) → slice_get (take n xs) i ≡ Some x → (i < n) × (slice_get xs i ≡ Some x)
got_taken [] zero i x at = cc
got_taken [] (suc n) i x at = cc
got_taken (y ∷ xs) zero i x at = cc
got_taken (y ∷ xs) (suc n) zero x at = (omega arith, at)
got_taken (y ∷ xs) (suc n) (suc i) x at = let more = got_taken xs n i x at in (omega (arith, more.0), more.1)

pub twice_journal : (im : Image) (system : System) (j : ℕ) (entry : Link) (rings : List Ring) (f : MountFault) → IsSystemOf im system → slice_get system.journals.items j ≡ Some entry
    → AreRings im (take j system.journals.items) rings → Contains (map (λ (r : Ring). r.dinode) rings) entry.entry.addr → f ≡ fault.Damaged entry.entry.addr 3 → RefusesRightly im f
twice_journal im system j entry rings f looked at are there is =
    let there' = subst (λ xs. Contains xs entry.entry.addr) are.dinodes there in
    let other = from_mapped (λ (e : Link). e.entry.addr) (take j system.journals.items) there'.0 entry.entry.addr (contains_at _ entry.entry.addr there') in
    let i = there'.0 in
    let early = got_taken system.journals.items j i other.0 other.1 in
    let claim = subst (λ b. Claims im other.0.from b (Named system.jindex (journal_name i))) other.2 (looked.journals.each i other.0 early.1).claimed in
    let few = looked.journals.few in
    let low = within system.journals.items j entry at in
    told im f entry.entry.addr 3 is looked.names.groups.list.master.format dinode_inside
    (two_owners entry.entry.addr entry.from other.0.from (Named system.jindex (journal_name j)) (Named system.jindex (journal_name i)) (looked.journals.each j entry at).claimed claim
    (λ e. absurd (omega (arith, early.0, one_number j i (omega (arith, few, low)) (omega (arith, few, low, early.0)) (same_name system.jindex system.jindex (journal_name j) (journal_name i) e)))) (λ one. one))
  where
    dinode_inside : IsReached im entry.entry.addr
    dinode_inside = ring_inside (from_mapped (λ (r : Ring). r.dinode) rings there.0 entry.entry.addr (contains_at _ entry.entry.addr there))
      where
        ring_inside : (r : Ring) × (slice_get rings there.0 ≡ Some r) × (r.dinode ≡ entry.entry.addr) → IsReached im entry.entry.addr
        ring_inside one =
            let is_ring = subst (λ (r : Ring). IsRingOf im r.dinode r.blocks.items) (get_or_from_slice_get rings there.0 one.0 one.0 one.1) (are.each there.0 one.0 (slice_get_within rings there.0 one.0 one.1)) in
            subst (IsReached im) one.2 is_ring.places.reached

    within : (xs : List Link) (k : ℕ) (x : Link) → slice_get xs k ≡ Some x → k < length xs
    within [] k x e = cc
    within (y ∷ xs) zero x e = omega arith
    within (y ∷ xs) (suc k) x e = omega (arith, within xs k x e)

take_more : {X : Type 0} (xs : List X) (j : ℕ) (x : X) → slice_get xs j ≡ Some x → take (j + 1) xs ≡ take j xs ++ x ∷ []
take_more xs j x at = let e : j + 1 ≡ suc j = omega arith in ap (λ n. take n xs) e ∙ all xs j x at
  where
    all : {X : Type 0} (xs : List X) (j : ℕ) (x : X) → slice_get xs j ≡ Some x → take (suc j) xs ≡ take j xs ++ x ∷ []
    all [] j x at = cc
    all {X} (y ∷ xs) zero x at = let head : y ≡ x = some_same y x at in ap (λ (z : X). z ∷ []) head
      where
        some_same : (a b : X) → Some a ≡ Some b → a ≡ b
        some_same a b e = cc
    all (y ∷ xs) (suc j) x at = ap (λ zs. y ∷ zs) (all xs j x at)

pub rings_more : (im : Image) (journals : List Link) (j : ℕ) (entry : Link) (old new : List Ring) (ring : Ring) → AreRings im (take j journals) old → slice_get journals j ≡ Some entry → ring.dinode ≡ entry.entry.addr
    → IsRingOf im entry.entry.addr ring.blocks.items → IsTrueEntry im entry.entry → new ≡ old ++ ring ∷ [] → AreRings im (take (j + 1) journals) new
rings_more im journals j entry old new ring are at dinode of true_of is = record {
  entries = subst (All (λ (e : Link). IsTrueEntry im e.entry)) (sym (take_more journals j entry at)) (All-push (λ (e : Link). IsTrueEntry im e.entry) (take j journals) entry are.entries true_of);
  dinodes = ap (map (λ (r : Ring). r.dinode)) is ∙ map-append (λ (r : Ring). r.dinode) old (ring ∷ []) ∙ ap (λ xs. xs ++ ring.dinode ∷ []) are.dinodes
      ∙ ap (λ d. map (λ (e : Link). e.entry.addr) (take j journals) ++ d ∷ []) dinode ∙ sym (map-append (λ (e : Link). e.entry.addr) (take j journals) (entry ∷ []))
      ∙ ap (map (λ (e : Link). e.entry.addr)) (sym (take_more journals j entry at));
  each = subst (All (λ (r : Ring). IsRingOf im r.dinode r.blocks.items)) (sym is)
      (All-push (λ (r : Ring). IsRingOf im r.dinode r.blocks.items) old ring are.each (subst (λ d. IsRingOf im d ring.blocks.items) (sym dinode) of));
}

pub dinodes_more : (old new : List Ring) (ring : Ring) (d : ℕ) → new ≡ old ++ ring ∷ [] → ring.dinode ≡ d → map (λ (r : Ring). r.dinode) old ++ d ∷ [] ≡ map (λ (r : Ring). r.dinode) new
dinodes_more old new ring d is dinode = ap (λ x. map (λ (r : Ring). r.dinode) old ++ x ∷ []) (sym dinode) ∙ sym (map-append (λ (r : Ring). r.dinode) old (ring ∷ [])) ∙ ap (map (λ (r : Ring). r.dinode)) (sym is)

-- an item of a list that is another's
pub at_item : {X : Type 0} (xs ys : List X) (i : ℕ) (d : X) → xs ≡ ys → i < length xs → slice_get ys i ≡ Some (get_or xs i d)
at_item xs ys i d same low = ap (λ zs. slice_get zs i) (sym same) ∙ slice_get-get_or xs i d low

pub inside_now : (old now : DiskState) (blocks : List ℕ) → now ≡ old → All (λ b. b < now.count) blocks → All (λ b. b < old.count) blocks
inside_now old now blocks same = subst (λ (s : DiskState). All (λ b. b < s.count) blocks) same

-- no journal is another of the files, with one more
pub rings_own : (system : System) (old new : List Ring) (ring : Ring) (addr : ℕ) → All (λ (x : Ring). IsOwn system x.dinode) old → ring.dinode ≡ addr → IsOwn system addr → new ≡ old ++ ring ∷ []
    → All (λ (x : Ring). IsOwn system x.dinode) new
rings_own system old new ring addr before dinode own is =
    subst (All (λ (x : Ring). IsOwn system x.dinode)) (sym is) (All-push (λ (x : Ring). IsOwn system x.dinode) old ring before (subst (IsOwn system) (sym dinode) own))

-- what holds of the places of each journal, with one more
pub rings_with : (P : ℕ → Type 0) (old new : List Ring) (ring : Ring) → All (λ (r : Ring). All P r.blocks.items) old → All P ring.blocks.items → new ≡ old ++ ring ∷ [] → All (λ (r : Ring). All P r.blocks.items) new
rings_with P old new ring before here is = subst (All (λ (r : Ring). All P r.blocks.items)) (sym is) (All-push (λ (r : Ring). All P r.blocks.items) old ring before here)

pub ring_of_turn : (im : Image) (rings : List Ring) (k : ℕ) (ring : Ring) → k < length rings → ring ≡ get_or rings k ring → All (λ (r : Ring). IsRingOf im r.dinode r.blocks.items) rings
    → IsRingOf im ring.dinode ring.blocks.items
ring_of_turn im rings k ring low is all = subst (λ (r : Ring). IsRingOf im r.dinode r.blocks.items) (sym is) (all k ring low)

-- no journal before has this dinode
pub not_before : (now rings : List Ring) (addr : ℕ) → now ≡ rings → ¬ (Contains (map (λ (r : Ring). r.dinode) now) addr) → ¬ (Contains (map (λ (r : Ring). r.dinode) rings) addr)
not_before now rings addr same new = subst (λ rs. ¬ (Contains (map (λ (r : Ring). r.dinode) rs) addr)) same new
