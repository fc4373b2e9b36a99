-- The stages of a demotion, and an unmount.
use Rattle.std.proofs.Common.{ℕ, zero, suc, ◌+◌, ◌-◌, ◌≡◌, ◌≤◌, ◌<◌, ◌⊎◌, inl, inr, Bool, true, false, None, Some, refl, sym, ap, ◌∙◌, subst, arith}
use Rattle.std.proofs.lemmas.Bool.{cases_eq, cases_Bool, cond-true, cond-false}
use Rattle.cluster_laws.specs.Files.{Files, LockOf, Ex}
use Rattle.cluster_laws.specs.Book.{at, Book, Whole, flushed, settled}
use Rattle.cluster_laws.specs.Mirror.{headed, either, chosen}
use Rattle.cluster_laws.specs.Log.{Untouched, IsFlushed}
use Rattle.cluster_laws.specs.World.{Begins, Ends, Settles}
use Rattle.cluster_laws.proofs.Cells.{split, none-some, at-same, at-other}
use Rattle.cluster_laws.proofs.Logging.{header_heads, given_back, given, stays, never_under, steady, last-says}
use Rattle.cluster_events.specs.Cluster.{Cluster, BookOf, NothingUnder, Event, Events, Works, GoesDown, Done, Then}
use Rattle.event_lists.specs.Gives.{DiskOf}
use Rattle.event_lists.specs.Stops.{with_world}
use Rattle.event_lists.specs.Demotions.{committed, without_live, CommitIsEvents, FlushFlushes, FlushedIsUntouched, HeaderKeepsStages, RevokesAreHeader, HomeIsRevoked, RevokesRevoke, StagesRelease, ReleaseIsEvents, CleanIsHeader, CleanReleases}

module _ (F : Files) where
  -- ---- a header and its barrier

  at-again : {A : Type 0} (f : ℕ → A) (i : ℕ) (x y : A) (k : ℕ) → at (at f i x) i y k ≡ at f i y k
  at-again f i x y k = elim (cases_eq k i) [
    | inl e ↦ subst (λ z. at (at f i x) i y z ≡ at f i y z) (sym e) (at-same (at f i x) i y ∙ sym (at-same f i y))
    | inr ne ↦ at-other (at f i x) i y k ne ∙ at-other f i x k ne ∙ sym (at-other f i y k ne)
  ]

  pub commit : CommitIsEvents F
  commit c i u h t unheaded writer replays header = subst (λ z. Events F c z) same (Then c begun _ first (Then begun landed _ second (Done landed)))
    where
      begun : Cluster F
      begun = record c {
        world = record (c.world) { disk = headed F (DiskOf F c) i h };
        header_of = at (c.header_of) i (Some (writer.0));
      }

      landed : Cluster F
      landed = record c {
        world = record (c.world) {
          book = flushed F (BookOf F c) i (((headed F (DiskOf F c) i h).heads i true).cut);
          disk = chosen F (headed F (DiskOf F c) i h) i true;
        };
        header_of = at (at (c.header_of) i (Some (writer.0))) i None;
      }

      first : Event F c begun
      first = Works (begun.world) (Begins i h (t.headers i unheaded) (header_heads F (BookOf F c) (DiskOf F c) i u h ((t.world).whole) ((t.world).mirror) header))
          (writer, unheaded, header.none_flying, λ waits. header.cut ∙ replays waits)

      second : Event F begun landed
      second = Works (landed.world) (Ends i true) (writer.0, at-same (c.header_of) i (Some (writer.0)), inl refl)

      new : (headed F (DiskOf F c) i h).heads i true ≡ h
      new = ap (λ f. f true) (at-same ((DiskOf F c).heads) i (either ((DiskOf F c).heads i false) h))

      after : (k : ℕ) → (chosen F (headed F (DiskOf F c) i h) i true).heads k ≡ at ((DiskOf F c).heads) i (λ d. h) k
      after k = elim (cases_eq k i) [
        | inl e ↦ subst (λ z. (chosen F (headed F (DiskOf F c) i h) i true).heads z ≡ at ((DiskOf F c).heads) i (λ d. h) z) (sym e)
            (at-same ((headed F (DiskOf F c) i h).heads) i _ ∙ (λ z d. both d z) ∙ sym (at-same ((DiskOf F c).heads) i (λ d. h)))
        | inr ne ↦ at-other ((headed F (DiskOf F c) i h).heads) i _ k ne ∙ at-other ((DiskOf F c).heads) i _ k ne ∙ sym (at-other ((DiskOf F c).heads) i (λ d. h) k ne)
      ]
        where
          both : (d : Bool) → either ((headed F (DiskOf F c) i h).heads i true) ((headed F (DiskOf F c) i h).heads i true) d ≡ h
          both false = new
          both true = new

      same : landed ≡ committed F c i h
      same = λ z. record c {
        world = record (c.world) {
          book = flushed F (BookOf F c) i ((new z).cut);
          disk = record (DiskOf F c) { heads = λ k. after k z };
        };
        header_of = λ k. at-again (c.header_of) i (Some (writer.0)) None k z;
      }

  pub flushes : FlushFlushes F
  flushes B i l untouched n b x low high change = absurd (none-some (untouched b n low high) change)

  untouched-under : (B : Book F) (i : ℕ) (l : F.Lock) (b : ℕ) → Whole F B → IsFlushed F B i l → B.owner b ≡ Some i → LockOf F (B.says i (B.low i) b) ≡ l
      → (d : ℕ) → B.low i + d ≤ B.answered i → Untouched F B i (B.low i) (B.low i + d) b
  untouched-under B i l b whole flushed own under zero high n lo hi = absurd (omega arith)
  untouched-under B i l b whole flushed own under (suc d) high n lo hi =
      let before : Untouched F B i (B.low i) (B.low i + d) b = untouched-under B i l b whole flushed own under d (omega arith) in
      elim (cases_eq n (B.low i + d)) [
        | inl e ↦ elim (split (B.change i (suc n) b)) [
          | inl none ↦ none
          | inr some ↦ absurd ((flushed n b (some.0) lo (omega arith) (some.1)).1
              (ap (LockOf F) (steady F B whole i b own (B.low i) n (omega arith) lo (omega arith) (λ m l h. before m l (omega arith))) ∙ under))
        ]
        | inr ne ↦ before n lo (omega arith)
      ]

  pub flushed_untouched : FlushedIsUntouched F
  flushed_untouched B i u b l whole flushed own under top n lo hi = untouched-under B i l b whole flushed own under (u - B.low i) (omega arith) n lo (omega arith)

  pub header_stages : HeaderKeepsStages F
  header_stages B D i u h l whole mirror header flushed b v live under = elim (header.each b) [
    | inl same ↦ elim (same.1) [
      | inl was ↦ (let old : (D.heads i false).live b ≡ Some v = sym was ∙ live in (
        old,
        elim under [
          | inl before ↦ before
          | inr after ↦ ap (LockOf F) (sym (steady F B whole i b (mirror.lives i false b v old) (B.low i) u (omega arith) ((header.range).0) top (same.0))) ∙ after
        ],
      ))
      | inr gone ↦ absurd (none-some (gone.0) live)
    ]
    | inr last ↦ (
        let t = last.0 in let lo = t.above in let hi = t.below in
        let own = (whole.logged i (t.call) lo (omega arith)).touched b (t.cell) (t.changes) in
        absurd (elim under [
          | inl before ↦ none-some (flushed_untouched B i u b l whole flushed own before top (t.call) lo hi) (t.changes)
          | inr after ↦ (flushed (t.call) b (t.cell) lo (omega arith) (t.changes)).0 (ap (LockOf F) (sym (last-says F B whole i b own (B.low i) u (omega arith) top t)) ∙ after)
        ]))
  ]
    where
      top : u ≤ B.answered i
      top = let p = (header.range).1 in let q = whole.published_answered i in omega arith

  pub revokes : RevokesAreHeader F
  revokes B D i u h p header untouched home = record {
    cut = header.cut;
    range = header.range;
    each = λ b. elim (cases_Bool (p b)) [
      | inl e ↦ inl (untouched b e, inr (cond-true _ _ _ e, λ v live. home b v e live))
      | inr e ↦ elim (header.each b) [
        | inl same ↦ inl (same.0, elim (same.1) [ inl was ↦ inl (cond-false _ _ _ e ∙ was) | inr gone ↦ inr (cond-false _ _ _ e ∙ gone.0, gone.1) ])
        | inr last ↦ inr (last.0, elim (last.1) [ inl logged ↦ inl (cond-false _ _ _ e ∙ logged) | inr free ↦ inr free ])
      ]
    ];
    none_flying = header.none_flying;
  }

  pub home_revoked : HomeIsRevoked F
  home_revoked B D i u h p l header home untouched under = revokes B D i u h p header untouched (λ b v e live. (home false b v live (under b v e live)).0)

  pub revokes_revoke : RevokesRevoke F
  revokes_revoke c i h p l all d b v live under = elim (cases_Bool (p b)) [
    | inl e ↦ none-some (cond-true _ _ _ e) live'
    | inr e ↦ true-false (all b v (sym (cond-false _ _ _ e) ∙ live') (ap (λ z. LockOf F ((BookOf F c).says i z b)) (sym (at-same ((BookOf F c).low) i (h.cut))) ∙ under)) e
  ]
    where
      true-false : {z : Bool} → z ≡ true → z ≡ false → ⊥
      true-false e f = cc

      live' : (without_live F h p).live b ≡ Some v
      live' = sym (ap (λ f. (f d).live b) (at-same ((DiskOf F c).heads) i (λ d. without_live F h p))) ∙ live

  pub stages : StagesRelease F
  stages B D i l flushed revoked = record { unlive = revoked; untouched = flushed }

  -- ---- the release

  pub releases : ReleaseIsEvents F
  releases c i locks cache t here weakens all clean cached = record {
    back = back;
    gives = record { own = λ b e. (gave b e).0; unlive = dead; untouched = λ b e. (gave b e).3; rest = stays F (BookOf F c) (DiskOf F c) ((t.world).whole) ((t.world).mirror) i };
    events = Then c (with_world F c (record (c.world) { book = settled F (BookOf F c) i back })) _
        (Works _ (Settles i back all (λ b e. (gave b e).0) (λ n b e. (gave b e).3 n) dead) tt)
        (Then (with_world F c (record (c.world) { book = settled F (BookOf F c) i back })) _ _ (GoesDown i locks cache here weakens all clean' cached) (Done _));
  }
    where
      back : ℕ → Bool
      back = given_back F (BookOf F c) (DiskOf F c) ((t.world).whole) ((t.world).mirror) i

      gave : (b : ℕ) → given_back F (BookOf F c) (DiskOf F c) ((t.world).whole) ((t.world).mirror) i b ≡ true
          → ((BookOf F c).owner b ≡ Some i) × (((DiskOf F c).heads i false).live b ≡ None) × (((DiskOf F c).heads i true).live b ≡ None)
          × ((n : ℕ) → (BookOf F c).low i ≤ n → n < (BookOf F c).answered i → (BookOf F c).change i (suc n) b ≡ None)
      gave = given F (BookOf F c) (DiskOf F c) ((t.world).whole) ((t.world).mirror) i

      dead : (d : Bool) (b : ℕ) → given_back F (BookOf F c) (DiskOf F c) ((t.world).whole) ((t.world).mirror) i b ≡ true → ((DiskOf F c).heads i d).live b ≡ None
      dead false b e = (gave b e).1
      dead true b e = (gave b e).2

      was : (b : ℕ) → (settled F (BookOf F c) i (given_back F (BookOf F c) (DiskOf F c) ((t.world).whole) ((t.world).mirror) i)).owner b ≡ Some i
          → (given_back F (BookOf F c) (DiskOf F c) ((t.world).whole) ((t.world).mirror) i b ≡ false) × ((BookOf F c).owner b ≡ Some i)
      was b h = elim (cases_Bool (given_back F (BookOf F c) (DiskOf F c) ((t.world).whole) ((t.world).mirror) i b)) [
        | inl e ↦ absurd (none-some (cond-true _ _ _ e) h)
        | inr e ↦ (e, sym (cond-false _ _ _ e) ∙ h)
      ]

      clean' : (l : F.Lock) → (c.locks l i).state ≡ Ex → ((locks l i).state ≡ Ex)
          ⊎ NothingUnder F (settled F (BookOf F c) i (given_back F (BookOf F c) (DiskOf F c) ((t.world).whole) ((t.world).mirror) i)) i l
      clean' l ex = elim (clean l ex) [
        | inl still ↦ inl still
        | inr may ↦ inr (λ k b h low high. (let o = was b h in
            never_under F (BookOf F c) (DiskOf F c) ((t.world).whole) ((t.world).mirror) i l may b (o.1)
            (stays F (BookOf F c) (DiskOf F c) ((t.world).whole) ((t.world).mirror) i b (o.0) (o.1)) k low high))
      ]

  -- ---- an unmount

  pub clean_header : CleanIsHeader F
  clean_header B D i u range untouched home none_flying = record {
    cut = refl;
    range = range;
    each = λ b. inl (untouched b, inr (refl, λ v live. home b v live));
    none_flying = none_flying;
  }

  pub clean_releases : CleanReleases F
  clean_releases B D i l untouched dead = record {
    unlive = λ d b v live under. none-some (dead d b) live;
    untouched = λ n b x low high change. absurd (none-some (untouched b n low high) change);
  }
