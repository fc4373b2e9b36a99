-- Every event keeps what holds of the machine; so every run has the headline.
use Rattle.std.proofs.Common.{ℕ, ◌≡◌, ◌≤◌, ◌<◌, ◌⊎◌, inl, inr, zero, suc, Bool, true, false, ◌-◌, None, Some, [], ◌∷◌, ◌++◌, take, refl, sym, ap, ◌∙◌, subst, arith}
use Rattle.std.proofs.lemmas.Bool.{cases_eq, cases_lt, cond-true, cond-false, eq-eqb}
use Rattle.cluster_laws.specs.Files.{Files, Part, LockOf, Does, RightTo, Ex}
use Rattle.cluster_laws.specs.Book.{at, Kept, Book, W, InBox, kept_by, Numbered, Whole, tried, publish, flushed, settled, lost, dropped}
use Rattle.cluster_laws.specs.Locks.{read_into}
use Rattle.cluster_laws.specs.Mirror.{Disk, Mirror, placed, chosen, renumbered}
use Rattle.cluster_laws.specs.History.{Called, Gone, living, saids, Right, Legal, KeepsSynced, Each, calls_of, Fitting}
use Rattle.cluster_laws.specs.Log.{Calm}
use Rattle.cluster_laws.specs.World.{World, Answering, nothing, Step, Answers, Syncs, Publishes, Begins, Ends, Writes, Lands, Settles, Lower, Grants, Reads, Shrinks, Loses, SyncsBelow, Sound, Run, Stop, Goes, BeginsAt, EveryRun}
use Rattle.cluster_laws.proofs.Cells.{none-some, at-same, at-other, at-cases, eqb-false}
use Rattle.cluster_laws.proofs.Trying.{whole_tried, mirror_tried}
use Rattle.cluster_laws.proofs.Publishing.{whole_published}
use Rattle.cluster_laws.proofs.Flushing.{whole_flushed}
use Rattle.cluster_laws.proofs.Settling.{whole_settled, one}
use Rattle.cluster_laws.proofs.Losing.{whole_lost}
use Rattle.cluster_laws.proofs.Locking.{whole_lowered, whole_raised, whole_read, whole_forgotten}
use Rattle.cluster_laws.proofs.Logging.{steady}
use Rattle.cluster_laws.proofs.Replaying.{stands_for_what_remains, mirror_ended, mirror_flown, mirror_headed, mirror_chosen, mirror_published, mirror_relocked, mirror_settled, mirror_lost}
use Rattle.cluster_laws.proofs.Histories.{living-called, living-gone, kept_by-all, Legal-more, KeepsSynced-called, KeepsSynced-gone, SyncsBelow-called, SyncsBelow-gone, SyncsBelow-rise, Each-called, Each-gone, Each-map, calls_of-called, calls_of-gone, nil-not, Fitting-more}

-- what all published calls together give
all_right : (F : Files) (B : Book F) → Whole F B → Right F (saids F (B.kept)) (B.start)
all_right F B whole =
    let r = whole.right (B.published) (λ i. (whole.low_published i, whole.published_answered i)) (λ i. omega arith) in
    (r.0, subst (λ z. RightTo F z (B.start) (r.0)) (kept_by-all F (B.published) (B.kept) (whole.numbered)) (r.2))

-- ---- answers

module _ (F : Files) (B : Book F) (whole : Whole F B) (j : ℕ) (said : F.Said) (v c cache : Part F) (answering : Answering F B j said v c cache) where
  abbrev After : Book F
  After = tried F B j said v c cache

  whole' : Whole F After
  whole' = whole_tried F B whole j said v c cache (answering.sees) (answering.does) (answering.guards) (answering.caches) (answering.tells) (answering.tracks)

  mirror' : (D : Disk F) → Mirror F B D → Mirror F After D
  mirror' = mirror_tried F B whole j said v c cache (answering.sees) (answering.does) (answering.guards) (answering.caches) (answering.tells) (answering.tracks)

-- what a node has said stays what it was
pub told-kept : (F : Files) (B : Book F) (j : ℕ) (said : F.Said) (i m : ℕ) → m ≤ B.answered i → at (B.told) j (at (B.told j) (suc (B.answered j)) said) i m ≡ B.told i m
told-kept F B j said i m high = at-cases (λ t. t m ≡ B.told i m) (B.told) j (at (B.told j) (suc (B.answered j)) said) i
    (λ e. at-cases (λ t. t ≡ B.told i m) (B.told j) (suc (B.answered j)) said m
    (λ same. (let h : m ≤ B.answered j = subst (λ z. m ≤ B.answered z) e high in absurd (omega arith)))
    (λ differ. subst (λ z. B.told z m ≡ B.told i m) e refl))
    (λ ne. refl)

true-false : {b : Bool} → b ≡ false → b ≡ true → ⊥
true-false e f = cc

heard-tried : (F : Files) (w : World F) → Sound F w → (j : ℕ) (said : F.Said)
    → Each F (λ k. (k.number ≤ (w.book).published (k.node)) × (k.said ≡ at ((w.book).told) j (at ((w.book).told j) (suc ((w.book).answered j)) said) (k.node) (k.number))) (w.items)
heard-tried F w s j said = Each-map F (λ k. (k.number ≤ (w.book).published (k.node)) × (k.said ≡ (w.book).told (k.node) (k.number)))
    (λ k. (k.number ≤ (w.book).published (k.node)) × (k.said ≡ at ((w.book).told) j (at ((w.book).told j) (suc ((w.book).answered j)) said) (k.node) (k.number)))
    (λ k p. (p.0, p.1 ∙ sym (told-kept F (w.book) j said (k.node) (k.number) (let q = (s.whole).published_answered (k.node) in let r = p.0 in omega arith)))) (w.items) (s.heard)

answered : (F : Files) (w : World F) → Sound F w → (j : ℕ) (said : F.Said) (v c cache : Part F) → (F.IsSync said → ⊥) → Answering F (w.book) j said v c cache
    → Sound F (record w { book = tried F (w.book) j said v c cache })
answered F w s j said v c cache no_sync a = record {
  whole = whole' F (w.book) (s.whole) j said v c cache a;
  mirror = mirror' F (w.book) (s.whole) j said v c cache a (w.disk) (s.mirror);
  told = s.told;
  legal = s.legal;
  keeps = s.keeps;
  syncs = s.syncs;
  unpublished = λ i n low high. at-cases (λ t. F.IsSync (t (suc n)) → suc n ≤ w.sure i) ((w.book).told) j (at ((w.book).told j) (suc ((w.book).answered j)) said) i
      (λ e. at-cases (λ t. F.IsSync t → suc n ≤ w.sure i) ((w.book).told j) (suc ((w.book).answered j)) said (suc n)
      (λ same sync. absurd (no_sync sync))
      (λ differ sync. s.unpublished i n low (before i n e high differ) (subst (λ z. F.IsSync ((w.book).told z (suc n))) (sym e) sync)))
      (λ ne sync. s.unpublished i n low (subst (λ z. n < z) (at-other ((w.book).answered) j _ i ne) high) sync);
  sure_answered = λ i. at-cases (λ z. w.sure i ≤ z) ((w.book).answered) j (suc ((w.book).answered j)) i
      (λ e. (let h = s.sure_answered i in let h' : w.sure i ≤ (w.book).answered j = subst (λ z. w.sure i ≤ (w.book).answered z) e h in omega arith)) (λ ne. s.sure_answered i);
  sure_calm = λ i n low high. ap (λ z. F.Changes z) (told-kept F (w.book) j said i (suc n) (let h = s.sure_answered i in omega arith)) ∙ s.sure_calm i n low high;
  heard = heard-tried F w s j said;
  counted = s.counted;
  fits = s.fits;
}
  where
    before : (i n : ℕ) → i ≡ j → n < at ((w.book).answered) j (suc ((w.book).answered j)) i → (suc n ≡ suc ((w.book).answered j) → ⊥) → n < (w.book).answered i
    before i n e high differ = subst (λ z. n < (w.book).answered z) (sym e)
        (let h : n < suc ((w.book).answered j) = subst (λ z. n < z) (subst (λ z. at ((w.book).answered) j (suc ((w.book).answered j)) z ≡ suc ((w.book).answered j)) (sym e) (at-same ((w.book).answered) j _)) high in
        elim (cases_eq n ((w.book).answered j)) [ inl same ↦ absurd (differ (ap suc same)) | inr other ↦ omega arith ])

-- ---- a sync

pub sync_answers : (F : Files) (w : World F) → Sound F w → (j : ℕ) (said : F.Said) → Does F (nothing F) said (nothing F) → F.Changes said ≡ false
    → Answering F (w.book) j said (nothing F) (nothing F) ((w.book).cache j)
sync_answers F w s j said does still = record {
  sees = λ b x h. absurd (none-some refl h);
  does = does;
  guards = λ m t b y h st e. absurd (none-some refl e);
  caches = λ b x h. inr (refl, (s.whole).cached j b x h);
  tells = record { empty = λ e b. refl; some = λ e. absurd (true-false still e) };
  tracks = λ m t b y h st e. absurd (none-some refl e);
}

synced : (F : Files) (w : World F) → Sound F w → (j : ℕ) (said : F.Said) → Does F (nothing F) said (nothing F) → F.Changes said ≡ false → Calm F (w.book) j ((w.book).low j) ((w.book).answered j)
    → Sound F (record w { book = tried F (w.book) j said (nothing F) (nothing F) ((w.book).cache j); sure = at (w.sure) j (suc ((w.book).answered j)) })
synced F w s j said does still calm = record {
  whole = whole' F (w.book) (s.whole) j said (nothing F) (nothing F) ((w.book).cache j) a;
  mirror = mirror' F (w.book) (s.whole) j said (nothing F) (nothing F) ((w.book).cache j) a (w.disk) (s.mirror);
  told = s.told;
  legal = s.legal;
  keeps = s.keeps;
  syncs = SyncsBelow-rise F (w.sure) (at (w.sure) j (suc ((w.book).answered j))) (w.items) rises (s.syncs);
  unpublished = λ i n low high sync. elim (cases_eq i j) [
    | inl e ↦ subst (λ z. suc n ≤ z) (sym (subst (λ z. at (w.sure) j (suc ((w.book).answered j)) z ≡ suc ((w.book).answered j)) (sym e) (at-same (w.sure) j _)))
        (let h : n < suc ((w.book).answered j) = subst (λ z. n < z) (subst (λ z. at ((w.book).answered) j (suc ((w.book).answered j)) z ≡ suc ((w.book).answered j)) (sym e) (at-same ((w.book).answered) j _)) high in omega arith)
    | inr ne ↦ subst (λ z. suc n ≤ z) (sym (at-other (w.sure) j _ i ne))
        (s.unpublished i n low (subst (λ z. n < z) (at-other ((w.book).answered) j _ i ne) high) (subst (λ t. F.IsSync (t (suc n))) (at-other ((w.book).told) j _ i ne) sync))
  ];
  sure_answered = λ i. elim (cases_eq i j) [
    | inl e ↦ subst (λ i. at (w.sure) j (suc ((w.book).answered j)) i ≤ at ((w.book).answered) j (suc ((w.book).answered j)) i) (sym e)
        (subst (λ z. z ≤ at ((w.book).answered) j (suc ((w.book).answered j)) j) (sym (at-same (w.sure) j _)) (subst (λ z. suc ((w.book).answered j) ≤ z) (sym (at-same ((w.book).answered) j _)) (omega arith)))
    | inr ne ↦ subst (λ z. z ≤ at ((w.book).answered) j (suc ((w.book).answered j)) i) (sym (at-other (w.sure) j _ i ne)) (subst (λ z. w.sure i ≤ z) (sym (at-other ((w.book).answered) j _ i ne)) (s.sure_answered i))
  ];
  sure_calm = λ i n low high. elim (cases_eq i j) [
    | inl e ↦ subst (λ i. (w.book).low i ≤ n → n < at (w.sure) j (suc ((w.book).answered j)) i
        → F.Changes (at ((w.book).told) j (at ((w.book).told j) (suc ((w.book).answered j)) said) i (suc n)) ≡ false) (sym e) (own n) low high
    | inr ne ↦ (let high' : n < w.sure i = subst (λ z. n < z) (at-other (w.sure) j _ i ne) high in
        ap (λ z. F.Changes z) (told-kept F (w.book) j said i (suc n) (let h = s.sure_answered i in omega arith)) ∙ s.sure_calm i n low high')
  ];
  heard = heard-tried F w s j said;
  counted = s.counted;
  fits = s.fits;
}
  where
    a : Answering F (w.book) j said (nothing F) (nothing F) ((w.book).cache j)
    a = sync_answers F w s j said does still

    rises : (i : ℕ) → w.sure i ≤ at (w.sure) j (suc ((w.book).answered j)) i
    rises i = at-cases (λ z. w.sure i ≤ z) (w.sure) j (suc ((w.book).answered j)) i
        (λ e. (let h = s.sure_answered i in let h' : w.sure i ≤ (w.book).answered j = subst (λ z. w.sure i ≤ (w.book).answered z) e h in omega arith)) (λ ne. omega arith)

    own : (n : ℕ) → (w.book).low j ≤ n → n < at (w.sure) j (suc ((w.book).answered j)) j
        → F.Changes (at ((w.book).told) j (at ((w.book).told j) (suc ((w.book).answered j)) said) j (suc n)) ≡ false
    own n low high = (let high' : n < suc ((w.book).answered j) = subst (λ z. n < z) (at-same (w.sure) j _) high in elim (cases_lt n ((w.book).answered j)) [
      | inl lt ↦ ap (λ z. F.Changes z) (told-kept F (w.book) j said j (suc n) lt) ∙ calm n low lt
      | inr ge ↦ (let e : (w.book).answered j ≡ n = omega arith in
          subst (λ n. F.Changes (at ((w.book).told) j (at ((w.book).told j) (suc ((w.book).answered j)) said) j (suc n)) ≡ false) e
          (ap (λ z. F.Changes z) (ap (λ f. f (suc ((w.book).answered j))) (at-same ((w.book).told) j _) ∙ at-same ((w.book).told j) (suc ((w.book).answered j)) said) ∙ still))
    ])

-- ---- publication and loss

published : (F : Files) (w : World F) → Sound F w → (i : ℕ) → (w.book).published i < (w.book).answered i
    → Sound F (record w {
      book = publish F (w.book) i;
      items = w.items ++ (Called (record { node = i; number = suc ((w.book).published i); said = (w.book).told i (suc ((w.book).published i)) }) ∷ []);
    })
published F w s i some = record {
  whole = whole_published F (w.book) (s.whole) i some;
  mirror = mirror_published F (w.book) (w.disk) (s.mirror) i;
  told = now;
  legal = Legal-more F (w.items) (Called call) ((w.book).start) (s.legal)
      (subst (λ z. Right F (saids F z) ((w.book).start)) (sym now) (all_right F (publish F (w.book) i) (whole_published F (w.book) (s.whole) i some)));
  keeps = KeepsSynced-called F call (w.items) (s.keeps);
  syncs = SyncsBelow-called F (w.sure) call (w.items) (λ sync. s.unpublished i ((w.book).published i) (omega arith) some sync) (s.syncs);
  unpublished = λ k n low high sync. s.unpublished k n (later k n low) high sync;
  sure_answered = s.sure_answered;
  sure_calm = s.sure_calm;
  heard = Each-called F (λ k. (k.number ≤ at ((w.book).published) i (suc ((w.book).published i)) (k.node)) × (k.said ≡ (w.book).told (k.node) (k.number))) call (w.items)
      (subst (λ z. suc ((w.book).published i) ≤ z) (sym (at-same ((w.book).published) i (suc ((w.book).published i)))) (omega arith), refl)
      (Each-map F (λ k. (k.number ≤ (w.book).published (k.node)) × (k.said ≡ (w.book).told (k.node) (k.number)))
      (λ k. (k.number ≤ at ((w.book).published) i (suc ((w.book).published i)) (k.node)) × (k.said ≡ (w.book).told (k.node) (k.number)))
      (λ k p. (rises (k.node) (k.number) (p.0), p.1)) (w.items) (s.heard));
  counted = λ j. at-cases (λ z. z ≡ calls_of F j (w.items ++ (Called call ∷ []))) ((w.book).published) i (suc ((w.book).published i)) j
      (λ e. sym (calls_of-called F j call (w.items) ∙ cond-true _ _ _ (eq-eqb i j (sym e)) ∙ ap suc (sym (s.counted j) ∙ ap ((w.book).published) e)))
      (λ ne. s.counted j ∙ sym (calls_of-called F j call (w.items) ∙ cond-false _ _ _ (eqb-false i j (λ e. ne (sym e)))));
  fits = Fitting-more F (w.items) (Called call) (s.fits) (ap suc (s.counted i));
}
  where
    call : Kept F
    call = record { node = i; number = suc ((w.book).published i); said = (w.book).told i (suc ((w.book).published i)) }

    now : living F (w.items ++ (Called (record { node = i; number = suc ((w.book).published i); said = (w.book).told i (suc ((w.book).published i)) }) ∷ []))
        ≡ (w.book).kept ++ ((record { node = i; number = suc ((w.book).published i); said = (w.book).told i (suc ((w.book).published i)) }) ∷ [])
    now = living-called F (record { node = i; number = suc ((w.book).published i); said = (w.book).told i (suc ((w.book).published i)) }) (w.items)
        ∙ ap (λ z. z ++ ((record { node = i; number = suc ((w.book).published i); said = (w.book).told i (suc ((w.book).published i)) }) ∷ [])) (s.told)

    rises : (k m : ℕ) → m ≤ (w.book).published k → m ≤ at ((w.book).published) i (suc ((w.book).published i)) k
    rises k m h = at-cases (λ z. m ≤ z) ((w.book).published) i (suc ((w.book).published i)) k
        (λ e. (let h' : m ≤ (w.book).published i = subst (λ z. m ≤ (w.book).published z) e h in omega arith)) (λ ne. h)

    later : (k n : ℕ) → at ((w.book).published) i (suc ((w.book).published i)) k ≤ n → (w.book).published k ≤ n
    later k n = at-cases (λ z. z ≤ n → (w.book).published k ≤ n) ((w.book).published) i (suc ((w.book).published i)) k
        (λ e h. subst (λ z. (w.book).published z ≤ n) (sym e) (omega arith)) (λ ne h. h)

gone : (F : Files) (w : World F) → Sound F w → (i k : ℕ) → (w.book).published i ≡ (w.book).answered i → (w.book).low i ≤ k → k ≤ (w.book).answered i
    → Calm F (w.book) i ((w.book).low i) k → (k ≡ (w.book).answered i) ⊎ (F.Changes ((w.book).told i (suc k)) ≡ true)
    → ((b : ℕ) → (w.book).cache i b ≡ None)
    → ((w.disk).heads i true).cut ≡ (w.book).low i
    → Sound F (record w { book = lost F (w.book) i k; disk = renumbered F (w.disk) i ((w.book).answered i); items = w.items ++ (Gone i ((w.book).low i) k ∷ []) })
gone F w s i k all above below calm next none single = record {
  whole = whole';
  mirror = mirror_lost F (w.book) (w.disk) (s.mirror) i k all same;
  told = now;
  legal = Legal-more F (w.items) (Gone i ((w.book).low i) k) ((w.book).start) (s.legal)
      (subst (λ z. Right F (saids F z) ((w.book).start)) (sym now) (all_right F (lost F (w.book) i k) whole'));
  keeps = KeepsSynced-gone F (w.sure) i ((w.book).low i) k (w.items) sure (s.syncs) (s.keeps);
  syncs = SyncsBelow-gone F (w.sure) i ((w.book).low i) k (w.items) (s.syncs);
  unpublished = s.unpublished;
  sure_answered = s.sure_answered;
  sure_calm = λ j n low high. at-cases (λ z. z ≤ n → F.Changes ((w.book).told j (suc n)) ≡ false) ((w.book).low) i ((w.book).answered i) j
      (λ e low. (let h = s.sure_answered j in let low' : (w.book).answered j ≤ n = subst (λ z. (w.book).answered z ≤ n) (sym e) low in absurd (omega arith)))
      (λ ne low. s.sure_calm j n low high) low;
  heard = Each-gone F (λ c. (c.number ≤ (w.book).published (c.node)) × (c.said ≡ (w.book).told (c.node) (c.number))) i ((w.book).low i) k (w.items) (s.heard);
  counted = λ j. s.counted j ∙ sym (calls_of-gone F j i ((w.book).low i) k (w.items));
  fits = Fitting-more F (w.items) (Gone i ((w.book).low i) k) (s.fits) (record {
    order = above;
    below = subst (λ z. k ≤ z) (sym all ∙ s.counted i) below;
    between = Each-map F (λ c. (c.number ≤ (w.book).published (c.node)) × (c.said ≡ (w.book).told (c.node) (c.number)))
        (λ c. c.node ≡ i → (w.book).low i < c.number → c.number ≤ k → F.Changes (c.said) ≡ false)
        (λ c p e low high. (let z : suc (c.number - 1) ≡ c.number = omega arith in ap (λ z. F.Changes z) (p.1 ∙ ap (λ m. (w.book).told m (c.number)) e)
        ∙ subst (λ m. F.Changes ((w.book).told i m) ≡ false) z (calm (c.number - 1) (omega arith) (omega arith)))) (w.items) (s.heard);
    next = Each-map F (λ c. (c.number ≤ (w.book).published (c.node)) × (c.said ≡ (w.book).told (c.node) (c.number)))
        (λ c. c.node ≡ i → c.number ≡ suc k → F.Changes (c.said) ≡ true)
        (λ c p e same. (let h : c.number ≤ (w.book).published i = subst (λ m. c.number ≤ (w.book).published m) e (p.0) in
        ap (λ z. F.Changes z) (p.1 ∙ ap (λ m. (w.book).told m (c.number)) e ∙ ap (λ m. (w.book).told i m) same) ∙ (elim next [
          | inl last ↦ absurd (omega (arith, all, last))
          | inr changes ↦ changes
        ]))) (w.items) (s.heard);
  });
}
  where
    whole' : Whole F (lost F (w.book) i k)
    whole' = whole_lost F (w.book) (s.whole) i k all above below none

    sure : w.sure i ≤ k
    sure = elim (cases_lt k (w.sure i)) [
      | inl lt ↦ (let h = s.sure_answered i in absurd (elim next [ inl last ↦ absurd (omega arith) | inr changes ↦ true-false (s.sure_calm i k above lt) changes ]))
      | inr le ↦ le
    ]

    same : (c : Bool) (b : ℕ) → (w.book).owner b ≡ Some i → (w.book).says i (((w.disk).heads i c).cut) b ≡ (w.book).says i k b
    same c b own = ap (λ m. (w.book).says i m b) (at-low c)
        ∙ sym (steady F (w.book) (s.whole) i b own ((w.book).low i) k (omega arith) above below (λ n l h. (((s.whole).logged i n l (omega arith)).tells).empty (calm n l h) b))
      where
        at-low : (c : Bool) → ((w.disk).heads i c).cut ≡ (w.book).low i
        at-low false = (s.mirror).alone i
        at-low true = single

    now : living F (w.items ++ (Gone i ((w.book).low i) k ∷ [])) ≡ dropped F i k ((w.book).kept)
    now = living-gone F i ((w.book).low i) k (w.items) ∙ ap (dropped F i k) (s.told)

-- ---- the rest

ended-header : (F : Files) (w : World F) → Sound F w → (i : ℕ) (c : Bool)
    → Sound F (record w { book = flushed F (w.book) i (((w.disk).heads i c).cut); disk = chosen F (w.disk) i c })
ended-header F w s i c = record {
  whole = whole_flushed F (w.book) (s.whole) i (((w.disk).heads i c).cut) ((s.mirror).cuts i c).0 ((s.mirror).cuts i c).1;
  mirror = mirror_chosen F (w.book) (w.disk) (s.mirror) i c;
  told = s.told;
  legal = s.legal;
  keeps = s.keeps;
  syncs = s.syncs;
  unpublished = s.unpublished;
  sure_answered = s.sure_answered;
  sure_calm = λ j n low high. s.sure_calm j n (at-cases (λ z. z ≤ n → (w.book).low j ≤ n) ((w.book).low) i (((w.disk).heads i c).cut) j
      (λ e low. (let low' : (w.book).low j ≤ ((w.disk).heads i c).cut = subst (λ z. (w.book).low z ≤ ((w.disk).heads i c).cut) (sym e) ((s.mirror).cuts i c).0 in omega arith))
      (λ ne low. low) low) high;
  heard = s.heard;
  counted = s.counted;
  fits = s.fits;
}

settles : (F : Files) (w : World F) → Sound F w → (i : ℕ) (p : ℕ → Bool) → (w.book).published i ≡ (w.book).answered i
    → ((b : ℕ) → p b ≡ true → (w.book).owner b ≡ Some i)
    → ((n b : ℕ) → p b ≡ true → (w.book).low i ≤ n → n < (w.book).answered i → (w.book).change i (suc n) b ≡ None)
    → ((c : Bool) (b : ℕ) → p b ≡ true → ((w.disk).heads i c).live b ≡ None)
    → Sound F (record w { book = settled F (w.book) i p })
settles F w s i p all own untouched dead = record {
  whole = whole_settled F (w.book) (s.whole) i p all own untouched;
  mirror = mirror_settled F (w.book) (w.disk) (s.whole) (s.mirror) i p own (one F (w.book) (s.whole) i p all own untouched) dead;
  told = s.told;
  legal = s.legal;
  keeps = s.keeps;
  syncs = s.syncs;
  unpublished = s.unpublished;
  sure_answered = s.sure_answered;
  sure_calm = s.sure_calm;
  heard = s.heard;
  counted = s.counted;
  fits = s.fits;
}

pub step_keeps : (F : Files) (w w' : World F) → Step F w w' → Sound F w → Sound F w'
step_keeps F w _ (Answers j said v c cache no_sync a) s = answered F w s j said v c cache no_sync a
step_keeps F w _ (Syncs j said does still calm) s = synced F w s j said does still calm
step_keeps F w _ (Publishes i some) s = published F w s i some
step_keeps F w _ (Begins i h single heads) s = record {
  whole = s.whole;
  mirror = mirror_headed F (w.book) (w.disk) (s.mirror) i h heads;
  told = s.told;
  legal = s.legal;
  keeps = s.keeps;
  syncs = s.syncs;
  unpublished = s.unpublished;
  sure_answered = s.sure_answered;
  sure_calm = s.sure_calm;
  heard = s.heard;
  counted = s.counted;
  fits = s.fits;
}
step_keeps F w _ (Ends i c) s = ended-header F w s i c
step_keeps F w _ (Writes r b v i live) s = record {
  whole = s.whole;
  mirror = mirror_flown F (w.book) (w.disk) (s.mirror) r b v i live;
  told = s.told;
  legal = s.legal;
  keeps = s.keeps;
  syncs = s.syncs;
  unpublished = s.unpublished;
  sure_answered = s.sure_answered;
  sure_calm = s.sure_calm;
  heard = s.heard;
  counted = s.counted;
  fits = s.fits;
}
step_keeps F w _ (Lands r x settles) s = record {
  whole = s.whole;
  mirror = mirror_ended F (w.book) (w.disk) (s.mirror) r x settles;
  told = s.told;
  legal = s.legal;
  keeps = s.keeps;
  syncs = s.syncs;
  unpublished = s.unpublished;
  sure_answered = s.sure_answered;
  sure_calm = s.sure_calm;
  heard = s.heard;
  counted = s.counted;
  fits = s.fits;
}
step_keeps F w _ (Settles i p all own one dead) s = settles F w s i p all own one dead
step_keeps F w _ (Lower i state cache lowers) s = record {
  whole = whole_lowered F (w.book) (s.whole) i state cache lowers;
  mirror = mirror_relocked F (w.book) (w.disk) (s.mirror) state cache;
  told = s.told;
  legal = s.legal;
  keeps = s.keeps;
  syncs = s.syncs;
  unpublished = s.unpublished;
  sure_answered = s.sure_answered;
  sure_calm = s.sure_calm;
  heard = s.heard;
  counted = s.counted;
  fits = s.fits;
}
step_keeps F w _ (Grants i state raises) s = record {
  whole = whole_raised F (w.book) (s.whole) i state raises;
  mirror = mirror_relocked F (w.book) (w.disk) (s.mirror) state ((w.book).cache);
  told = s.told;
  legal = s.legal;
  keeps = s.keeps;
  syncs = s.syncs;
  unpublished = s.unpublished;
  sure_answered = s.sure_answered;
  sure_calm = s.sure_calm;
  heard = s.heard;
  counted = s.counted;
  fits = s.fits;
}
step_keeps F w _ (Reads j b held) s = record {
  whole = whole_read F (w.book) (s.whole) j b held;
  mirror = mirror_relocked F (w.book) (w.disk) (s.mirror) ((w.book).state) (read_into F (w.book) j b);
  told = s.told;
  legal = s.legal;
  keeps = s.keeps;
  syncs = s.syncs;
  unpublished = s.unpublished;
  sure_answered = s.sure_answered;
  sure_calm = s.sure_calm;
  heard = s.heard;
  counted = s.counted;
  fits = s.fits;
}
step_keeps F w _ (Shrinks j cache forgets) s = record {
  whole = whole_forgotten F (w.book) (s.whole) j cache forgets;
  mirror = mirror_relocked F (w.book) (w.disk) (s.mirror) ((w.book).state) cache;
  told = s.told;
  legal = s.legal;
  keeps = s.keeps;
  syncs = s.syncs;
  unpublished = s.unpublished;
  sure_answered = s.sure_answered;
  sure_calm = s.sure_calm;
  heard = s.heard;
  counted = s.counted;
  fits = s.fits;
}
step_keeps F w _ (Loses i k all above below calm next none single) s = gone F w s i k all above below calm next none single

pub run_keeps : (F : Files) (u w : World F) → Run F u w → Sound F u → Sound F w
run_keeps F u _ (Stop _) s = s
run_keeps F u w (Goes _ v _ step run) s = run_keeps F v w run (step_keeps F u v step s)

-- ---- the start

pub sound_start : (F : Files) (w : World F) → BeginsAt F w → Sound F w
sound_start F w a = record {
  whole = record {
    low_published = λ i. (let n = a.numbers i in omega (arith, n.0, n.1));
    published_answered = λ i. (let n = a.numbers i in omega (arith, n.1, n.2));
    stands = λ cut box. ((w.book).start, subst (λ m. F.Stands (W F (w.book) m) ((w.book).start)) (zero-cut cut box) (a.stands));
    right = λ cut box low. (
      (w.book).start,
      subst (λ m. F.Stands (W F (w.book) m) ((w.book).start)) (zero-cut cut box) (a.stands),
      subst (λ z. RightTo F (kept_by F cut z) ((w.book).start) ((w.book).start)) (sym (a.unheard).1) refl,
    );
    numbered = subst (Numbered F ((w.book).published)) (sym (a.unheard).1) tt;
    owned = λ i k b e low high. (let n = a.numbers i in let z : 0 ≡ k = omega (arith, n.2) in subst (λ k. (w.book).state i (LockOf F ((w.book).says i k b)) ≡ Ex) z (a.owned i b e));
    apart = a.apart;
    cached = λ j b x h. absurd (none-some (a.uncached j b) h);
    past = λ i n low high. (let m = a.numbers i in absurd (omega (arith, m.2)));
    logged = λ i n low high. (let m = a.numbers i in absurd (omega (arith, m.2)));
  };
  mirror = a.mirror;
  told = subst (λ z. living F z ≡ (w.book).kept) (sym (a.unheard).0) (sym (a.unheard).1);
  legal = subst (λ z. Legal F z ((w.book).start)) (sym (a.unheard).0) (λ n h. ((w.book).start, at-none n));
  keeps = subst (KeepsSynced F) (sym (a.unheard).0) tt;
  syncs = subst (SyncsBelow F (w.sure)) (sym (a.unheard).0) tt;
  unpublished = λ i n low high. (let m = a.numbers i in absurd (omega (arith, m.2)));
  sure_answered = λ i. (let m = a.numbers i in omega (arith, m.3));
  sure_calm = λ i n low high. (let m = a.numbers i in absurd (omega (arith, m.3)));
  heard = subst (Each F (λ k. (k.number ≤ (w.book).published (k.node)) × (k.said ≡ (w.book).told (k.node) (k.number)))) (sym (a.unheard).0) tt;
  counted = λ i. (a.numbers i).1 ∙ ap (calls_of F i) (sym (a.unheard).0);
  fits = subst (Fitting F) (sym (a.unheard).0) (λ before after x e. absurd (nil-not before after x e));
}
  where
    zero-cut : (cut : ℕ → ℕ) → InBox F (w.book) cut → (λ (i : ℕ). 0) ≡ cut
    zero-cut cut box = λ k i. (let below = (box i).1 in let n = a.numbers i in let z : 0 ≡ cut i = omega (arith, n.2) in z) k

    at-none : (n : ℕ) → RightTo F (saids F (living F (take n []))) ((w.book).start) ((w.book).start)
    at-none zero = refl
    at-none (suc n) = refl

pub every_run : (F : Files) → EveryRun F
every_run F u w begins run =
    let s = run_keeps F u w run (sound_start F u begins) in
    record {
      legal = s.legal;
      keeps_synced = s.keeps;
      numbered = λ before after k e. s.fits before after (Called k) e;
      kept_right = λ before after i upto kept e. s.fits before after (Gone i upto kept) e;
      synced = λ choice. Each-map F (λ y. F.IsSync (y.said) → y.number ≤ w.sure (y.node))
          (λ y. F.IsSync (y.said) → Each F (λ k. k.node ≡ y.node → ((w.disk).heads (y.node) (choice (y.node))).cut < k.number → k.number ≤ y.number → F.Changes (k.said) ≡ false) (w.items))
          (λ y below sync. (let q = below sync in let p = ((s.mirror).cuts (y.node) (choice (y.node))).0 in
          Each-map F (λ k. (k.number ≤ (w.book).published (k.node)) × (k.said ≡ (w.book).told (k.node) (k.number)))
          (λ k. k.node ≡ y.node → ((w.disk).heads (y.node) (choice (y.node))).cut < k.number → k.number ≤ y.number → F.Changes (k.said) ≡ false)
          (λ k h e low high. (let z : suc (k.number - 1) ≡ k.number = omega arith in ap (λ z. F.Changes z) (h.1 ∙ ap (λ m. (w.book).told m (k.number)) e)
          ∙ subst (λ m. F.Changes ((w.book).told (y.node) m) ≡ false) z (s.sure_calm (y.node) (k.number - 1) (omega arith) (omega arith)))) (w.items) (s.heard))) (w.items) (s.syncs);
      remains = λ free choice x r outcome replay. subst (λ z. (t : F.Tree) × F.Stands (placed F r (W F (w.book) (λ i. ((w.disk).heads i (choice i)).cut))) t
          × RightTo F (kept_by F (λ i. ((w.disk).heads i (choice i)).cut) z) ((w.book).start) t)
          (sym (s.told)) (stands_for_what_remains F (w.book) (w.disk) (s.mirror) choice x r outcome replay (s.whole) free);
    }
