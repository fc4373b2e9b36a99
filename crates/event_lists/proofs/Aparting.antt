-- Rings of a start, and that they stay.
use Rattle.std.proofs.Common.{ℕ, ◌≡◌, inl, inr, Bool, true, false, Option, None, Some, refl, sym, ap, ◌∙◌, subst}
use Rattle.std.specs.Prelude.{◌==◌, if◌then◌else◌}
use Rattle.std.proofs.lemmas.Bool.{cases_Bool, eqb-true, eq-eqb}
use Rattle.cluster_laws.specs.Files.{Files}
use Rattle.cluster_laws.specs.Mirror.{Head, Disk, renumbered}
use Rattle.cluster_laws.specs.Rings.{Rings}
use Rattle.cluster_laws.specs.World as world
use Rattle.cluster_laws.proofs.Cells.{none-some, at-cases}
use Rattle.cluster_events.specs.Cluster.{Cluster, BookOf, Event, Works, Mails, IsGranted, GoesDown, Stops, Fences, Views, Joins, Recovers, PastEnds}
use Rattle.event_lists.specs.Gives.{DiskOf}
use Rattle.event_lists.specs.Begins.{Start, starting_disk}
use Rattle.event_lists.specs.Apart.{AreRings, RingsBegin, SameRings, IsOfHeader, RingsStay}

-- ---- the start

module _ (F : Files) (s : Start F) (rings : ℕ → ℕ → Option F.Content) (are : AreRings F s rings) where
  abbrev speaks : ℕ → ℕ
  speaks k = if s.waits k then s.past else k

  of-waiting : (k : ℕ) → s.waits k ≡ true → speaks k ≡ s.past
  of-waiting k w = ap (λ (q : Bool). if q then s.past else k) w

  of-own : (k : ℕ) → s.waits k ≡ false → speaks k ≡ k
  of-own k w = ap (λ (q : Bool). if q then s.past else k) w

  -- who speaks for another than the past speaks for itself
  itself : (k : ℕ) → (speaks k ≡ s.past → ⊥) → speaks k ≡ k
  itself k other = elim (cases_Bool (s.waits k)) [ inl w ↦ absurd (other (of-waiting k w)) | inr w ↦ of-own k w ]

  live-there : (b : ℕ) (v : F.Content) → s.live b ≡ Some v → (if s.past == s.past then s.live b else None) ≡ Some v
  live-there b v e = ap (λ (q : Bool). if q then s.live b else None) (eq-eqb (s.past) (s.past) refl) ∙ e

  begin : Rings F (starting_disk F s)
  begin = record {
    speaks = speaks;
    past = s.past;
    lone = λ r k same other. sym (itself r other) ∙ (same ∙ itself k (λ e. other (same ∙ e)));
    live = λ k d. rings k;
    apart = λ r k c d b u v left right. are.apart r k b u v left right;
    one = λ i. i;
    single = λ r ne. refl;
    parted = λ i c b v e. elim (cases_Bool (i == s.past)) [
      | inl is ↦
          let here = are.every b v (sym (ap (λ (q : Bool). if q then s.live b else None) is) ∙ e) in
          (here.0, of-waiting (here.0) (are.waiting (here.0) b v (here.1)) ∙ sym (eqb-true i (s.past) is), here.1)
      | inr other ↦ absurd (none-some (ap (λ (q : Bool). if q then s.live b else None) other) e)
    ];
    joined = λ r c b v e. subst (λ (k : ℕ). (if k == s.past then s.live b else None) ≡ Some v) (sym (of-waiting r (are.waiting r b v e))) (live-there b v (are.has r b v e));
  }

pub rings-begin : (F : Files) → RingsBegin F
unfolding begin
rings-begin F s rings are = (begin F s rings are, record { past = refl; live = λ k d. refl; waits = of-waiting F s rings are; own = of-own F s rings are })

-- ---- events

module _ (F : Files) where
  keep : (D D' : Disk F) → ((i : ℕ) (d : Bool) → (D'.heads i d).live ≡ (D.heads i d).live) → (R : Rings F D) → (R' : Rings F D') × SameRings F D D' R R'
  keep D D' same R = (
    record {
      speaks = R.speaks;
      past = R.past;
      lone = R.lone;
      live = R.live;
      apart = R.apart;
      one = R.one;
      single = R.single;
      parted = λ i c b v e. R.parted i c b v (sym (ap (λ f. f b) (same i c)) ∙ e);
      joined = λ r c b v e. ap (λ f. f b) (same (R.speaks r) c) ∙ R.joined r c b v e;
    },
    record { speaks = refl; past = refl; live = refl; one = refl },
  )

  renumbered-live : (D : Disk F) (i n k : ℕ) (d : Bool) → ((renumbered F D i n).heads k d).live ≡ (D.heads k d).live
  renumbered-live D i n k d = at-cases (λ (h : Bool → Head F). (h d).live ≡ (D.heads k d).live) (D.heads) i (λ c. record { cut = n; live = (D.heads i c).live }) k
      (λ e. ap (λ (m : ℕ). (D.heads m d).live) (sym e)) (λ ne. refl)

  stay : (c c' : Cluster F) (event : Event F c c') → (IsOfHeader F c c' event → ⊥) → (R : Rings F (DiskOf F c)) → (R' : Rings F (DiskOf F c')) × SameRings F (DiskOf F c) (DiskOf F c') R R'
  stay c _ (Works _ (world.Begins i h single heads) may) none R = absurd (none tt)
  stay c _ (Works _ (world.Ends i d) may) none R = absurd (none tt)
  stay c _ (Works _ (world.Loses i k all above below calm next empty single) may) none R = keep (DiskOf F c) _ (renumbered-live (DiskOf F c) i ((BookOf F c).answered i)) R
  stay c _ (Works _ (world.Answers j said v change cache no_sync a) may) none R = keep (DiskOf F c) _ (λ i d. refl) R
  stay c _ (Works _ (world.Syncs j said does still calm) may) none R = keep (DiskOf F c) _ (λ i d. refl) R
  stay c _ (Works _ (world.Publishes i some) may) none R = keep (DiskOf F c) _ (λ i d. refl) R
  stay c _ (Works _ (world.Writes r b v i live) may) none R = keep (DiskOf F c) _ (λ i d. refl) R
  stay c _ (Works _ (world.Lands r x settles) may) none R = keep (DiskOf F c) _ (λ i d. refl) R
  stay c _ (Works _ (world.Settles i p all owned untouched unlive) may) none R = keep (DiskOf F c) _ (λ i d. refl) R
  stay c _ (Works _ (world.Lower i state cache lowers) may) none R = keep (DiskOf F c) _ (λ i d. refl) R
  stay c _ (Works _ (world.Grants i state raises) may) none R = keep (DiskOf F c) _ (λ i d. refl) R
  stay c _ (Works _ (world.Reads j b held) may) none R = keep (DiskOf F c) _ (λ i d. refl) R
  stay c _ (Works _ (world.Shrinks j cache forgets) may) none R = keep (DiskOf F c) _ (λ i d. refl) R
  stay c _ (Mails locks sent) none R = keep (DiskOf F c) _ (λ i d. refl) R
  stay c _ (IsGranted i locks here nobody taken) none R = keep (DiskOf F c) _ (λ i d. refl) R
  stay c _ (GoesDown i locks cache here weakens all clean cached) none R = keep (DiskOf F c) _ (λ i d. refl) R
  stay c _ (Stops i here runs all) none R = keep (DiskOf F c) _ (λ i d. refl) R
  stay c _ (Fences i out unfenced idle) none R = keep (DiskOf F c) _ (λ i d. refl) R
  stay c _ Views none R = keep (DiskOf F c) _ (λ i d. refl) R
  stay c _ (Joins i here out fenced waits) none R = keep (DiskOf F c) _ (λ i d. refl) R
  stay c _ (Recovers i here wait nothing_left unheaded told) none R = keep (DiskOf F c) _ (λ i d. refl) R
  stay c _ (PastEnds wait nothing_left unheaded) none R = keep (DiskOf F c) _ (λ i d. refl) R

pub rings-stay : (F : Files) → RingsStay F
rings-stay F c c' event none R = stay F c c' event none R
