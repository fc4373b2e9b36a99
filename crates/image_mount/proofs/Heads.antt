-- The head of a journal, found from its first place on.
use Rattle.std.proofs.Common.{◌≡◌, ◌^◌, ◌++◌, [], ◌∷◌, ℕ, suc, ◌+◌, ◌<◌, ◌≤◌, List, length, Option, None, Some, get_or, refl, sym, ap, subst, ◌∙◌, arith}
use Rattle.std.specs.Prelude.{map, slice_get, take}
use Rattle.std.specs.List.{All, range_with_len}
use Rattle.std.proofs.lemmas.List.{length-map, map-append}
use Rattle.std.proofs.lemmas.List.Elements.{All-push}
use Rattle.std.proofs.lemmas.List.FromFn.{get_or-map-range_with_len, length-range_with_len}
use Rattle.gfs2_layout.specs.Inode.{content_block}
use Rattle.log_layout.specs.Journal.{ring_of, accepted, better, best_from, head_in}
use Rattle.log_layout.specs.declared.log_header.LogHeader.{LogHeader}
use Rattle.image_model.specs.Claims.{every}
use Rattle.image_model.specs.Image.{Image}
use Rattle.image_model.specs.Rules.{headless}
use Rattle.image_model.specs.Stands.{Layout, IsJournalAt}
use Rattle.image_mount.specs.Found.{HasNames, IsReached}
use Rattle.image_mount.specs.Mounted.{Journal}
use Rattle.image_mount.specs.Refusals.{RefusesRightly, HasLowHead, IsJournalSized}
use Rattle.image_mount.specs.Refusals as outside
use Rattle.image_mount.specs.Rings.{ring_at, AreBlocksOf, IsRingOf, IsHeadOf, IsLowJournal, AreJournals}
use Rattle.image_mount.specs.Searching.{FailsAt}
use Rattle.image_mount.specs.declared.fault.MountFault.{MountFault}
use Rattle.image_mount.specs.declared.fault.MountFault.TheVariants as fault
use Rattle.image_mount.specs.declared.field.Field.TheVariants as field
use Rattle.image_mount.specs.declared.journals.Ring.{Ring as JournalRing}
use Rattle.log_layout.proofs.BestHeaders.{best_more, best_same}
use Rattle.image_mount.proofs.Causes.{told, told_outside}
use Rattle.image_mount.proofs.Names.{all_at, from_mapped, mapped_at, taken_at}

pub head_same : (im : Image) (d : ℕ) (blocks : List ℕ) → AreBlocksOf im d (ring_of (every im d)).places blocks → head_in (ring_at im blocks) ≡ head_in (ring_of (every im d))
unfolding head_in
head_same im d blocks are =
    let n = (ring_of (every im d)).places in
    let count : length blocks ≡ n = ap length are.all ∙ length-map (range_with_len 0 n) (content_block (every im d)) ∙ length-range_with_len 0 n in
    ap (best_from (ring_at im blocks) 0) count
    ∙ best_same (ring_at im blocks) (ring_of (every im d)) 0 n
    (λ q low high. ap im.at (ap (λ bs. get_or bs q 0) are.all ∙ get_or-map-range_with_len (content_block (every im d)) 0 n q q 0 (omega (arith, high)) (omega arith)))

-- the disk failed at a block that is reached
pub device_told : (im : Image) (f : MountFault) (b : ℕ) → FailsAt b f → IsReached im b → RefusesRightly im f
device_told im (fault.NotProfile what value) b fails reached = absurd fails
device_told im (fault.Damaged block rule) b fails reached = absurd fails
device_told im (fault.DeviceFault block before after) b fails reached = subst (IsReached im) (sym fails) reached
device_told im fault.NoMemory b fails reached = absurd fails

-- ---- the best so far

pub head_more : (im : Image) (blocks : List ℕ) (k place b : ℕ) (bytes : List ℕ) (best now new : Option LogHeader) → new ≡ better best now → now ≡ accepted place bytes → place ≡ k
    → best ≡ best_from (ring_at im blocks) 0 k → bytes ≡ im.at b → b ≡ get_or blocks k 0 → new ≡ best_from (ring_at im blocks) 0 (k + 1)
head_more im blocks k place b bytes best now new is accepted_is same before read here =
    let next : k + 1 ≡ suc k = omega arith in
    let there : now ≡ accepted k (im.at (get_or blocks k 0)) = accepted_is ∙ ap (λ p. accepted p bytes) same ∙ ap (accepted k) (read ∙ ap im.at here) in
    let step : best_from (ring_at im blocks) 0 (k + 1) ≡ better (best_from (ring_at im blocks) 0 k) (accepted (0 + k) (im.at (get_or blocks (0 + k) 0)))
    = ap (best_from (ring_at im blocks) 0) next ∙ best_more (ring_at im blocks) 0 k in
    let zero_first : 0 + k ≡ k = omega arith in
    is ∙ ap (λ x. better x now) before ∙ ap (better (best_from (ring_at im blocks) 0 k)) there
    ∙ ap (λ p. better (best_from (ring_at im blocks) 0 k) (accepted p (im.at (get_or blocks p 0)))) (sym zero_first) ∙ sym step

pub head_all : (im : Image) (blocks : List ℕ) (n : ℕ) (best : Option LogHeader) → best ≡ best_from (ring_at im blocks) 0 n → n ≡ length blocks → best ≡ head_in (ring_at im blocks)
unfolding head_in
head_all im blocks n best is all = is ∙ ap (best_from (ring_at im blocks) 0) all

-- ---- what a head tells

module _ (im : Image) (d : ℕ) (blocks now : List ℕ) (best : Option LogHeader) (ring : IsRingOf im d blocks) (same : now ≡ blocks) (found : best ≡ head_in (ring_at im now)) where
  pub head_of_ring : best ≡ head_in (ring_of (every im d))
  head_of_ring = found ∙ ap (λ bs. head_in (ring_at im bs)) same ∙ head_same im d blocks ring.are

  pub headless_told : (l : Layout) (j : ℕ) (f : MountFault) → HasNames im l → IsJournalAt l j d → best ≡ None → f ≡ fault.Damaged d 16 → RefusesRightly im f
  headless_told l j f names at none is =
      told im f d 16 is names.groups.list.master.format ring.places.reached (headless j d (l.jindex, names.groups.list.master.jindex, names.there j d at) (sym head_of_ring ∙ none))

  pub late_told : (l : Layout) (j : ℕ) (f : MountFault) (head : LogHeader) → HasNames im l → ((i c : ℕ) → IsJournalAt l i c → IsJournalSized im c) → ((i c : ℕ) → i < j → IsJournalAt l i c → HasLowHead im c) → IsJournalAt l j d → best ≡ Some head → 2 ^ 63 ≤ head.sequence → f ≡ fault.NotProfile field.Sequence head.sequence → RefusesRightly im f
  late_told l j f head names sized before at some high is =
      told_outside im f field.Sequence head.sequence is (outside.sequence l j d head names sized before at ring.places.looked ring.places.whole (sym head_of_ring ∙ some) high)

  pub head_is : (head : LogHeader) → best ≡ Some head → head.sequence < 2 ^ 63 → IsHeadOf im d head
  head_is head some low = record { head_is = sym head_of_ring ∙ some; low = low }

-- one more journal
pub journals_more : (im : Image) (yielded : List JournalRing) (ring : JournalRing) (head : LogHeader) (old new : List Journal) → AreJournals im yielded old → IsRingOf im ring.dinode ring.blocks.items
    → IsHeadOf im ring.dinode head → new ≡ old ++ (record { dinode = ring.dinode; blocks = ring.blocks.items; head = head }) ∷ [] → AreJournals im (yielded ++ ring ∷ []) new
journals_more im yielded ring head old new are of best is =
    let journal : Journal = record { dinode = ring.dinode; blocks = ring.blocks.items; head = head } in
    let low : IsLowJournal im journal = record { is = record { dinode = refl; blocks = of.are.all; head = best.head_is }; low = best.low } in
    record {
      dinodes = ap (map (λ (j : Journal). j.dinode)) is ∙ map-append (λ (j : Journal). j.dinode) old (journal ∷ []) ∙ ap (λ ds. ds ++ ring.dinode ∷ []) are.dinodes
          ∙ sym (map-append (λ (r : JournalRing). r.dinode) yielded (ring ∷ []));
      each = subst (All (IsLowJournal im)) (sym is) (All-push (IsLowJournal im) old journal are.each low);
    }

-- each journal whose head was found has one that is low
pub heads_before : (im : Image) (yielded rings : List JournalRing) (journals : List Journal) (k i d : ℕ) → AreJournals im yielded journals → yielded ≡ take k rings → i < k
    → slice_get (map (λ (r : JournalRing). r.dinode) rings) i ≡ Some d → HasLowHead im d
heads_before im yielded rings journals k i d are taken low at =
    let ring = from_mapped (λ (r : JournalRing). r.dinode) rings i d at in
    let there : slice_get yielded i ≡ Some ring.0 = ap (λ rs. slice_get rs i) taken ∙ taken_at rings k i ring.0 low ring.1 in
    let journal = from_mapped (λ (j : Journal). j.dinode) journals i d (ap (λ ds. slice_get ds i) are.dinodes ∙ mapped_at (λ (r : JournalRing). r.dinode) yielded i ring.0 there ∙ ap Some ring.2) in
    let of = all_at (IsLowJournal im) journals i journal.0 are.each journal.1 in
    subst (HasLowHead im) journal.2 (record { head = journal.0.head; is = of.is.head; low = of.low })
