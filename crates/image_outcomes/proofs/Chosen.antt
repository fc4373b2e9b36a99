-- Which log headers in flight a choice takes, by what became of them.
use Rattle.std.proofs.Common.{◌≡◌, ◌≢◌, ◌⊎◌, ℕ, zero, suc, ◌<◌, Bool, true, false, List, [], ◌∷◌, None, Some, refl, sym, ap, subst, ◌∙◌, inl, inr}
use Rattle.std.specs.Prelude.{◌==◌, ◌||◌, if◌then◌else◌, slice_get, unwrap_or}
use Rattle.std.proofs.lemmas.Bool.{cases_Bool, cases_eq, cond-true, cond-false, eq-eqb, eqb-true}
use Rattle.gfs2_layout.specs.Inode.{content_block}
use Rattle.image_changes.specs.Instances.{among}
use Rattle.image_model.specs.Claims.{every}
use Rattle.image_model.specs.Image.{Image}
use Rattle.image_model.specs.Stands.{IsJournalAt, Layout}
use Rattle.image_model.proofs.Held.{none_some, some_same}
use Rattle.journal_outcomes.specs.Images.{HeaderFliesTo, IsChoice, chosen, landed_at, ring_at}
use Rattle.journal_outcomes.specs.Rings.{InFlight, SaysAs}
use Rattle.log_layout.specs.Journal.{Ring}
use Rattle.log_layout.specs.Laws.{HasSamePlaces}
use Rattle.log_layout.proofs.SamePlaces.{says_the_same}
use Rattle.image_outcomes.specs.CutShort.{ring_left}

-- what says as a journal says as one with the same places
pub says_along : (r s s' : Ring) → HasSamePlaces s s' → SaysAs r s → SaysAs r s'
says_along r s s' same says =
    let to = says_the_same s s' same in
    record {
      head = says.head;
      other = says.other;
      headed = says.headed;
      headed_other = sym to.head ∙ says.headed_other;
      reads = says.reads;
      transactions = says.transactions ∙ to.transactions says.other;
      live = λ b. says.live b ∙ to.live b;
      readable = (λ is. to.readable (says.readable.0 is), λ is. says.readable.1 ((says_the_same s' s (back same)).readable is));
    }
  where
    back : HasSamePlaces s s' → HasSamePlaces s' s
    back e = record { size = sym e.size; places = sym e.places; blocks = λ p low. sym (e.blocks p (subst (λ n. p < n) (sym e.places) low)) }

-- and a journal with the same places says as it does
pub says_before : (r r' s : Ring) → HasSamePlaces r' r → SaysAs r s → SaysAs r' s
says_before r r' s same says =
    let to = says_the_same r' r same in
    record {
      head = says.head;
      other = says.other;
      headed = to.head ∙ says.headed;
      headed_other = says.headed_other;
      reads = says.reads;
      transactions = to.transactions says.head ∙ says.transactions;
      live = λ b. to.live b ∙ says.live b;
      readable = (λ is. says.readable.0 (to.readable is), λ is. (says_the_same r r' (back same)).readable (says.readable.1 is));
    }
  where
    back : HasSamePlaces r' r → HasSamePlaces r r'
    back e = record { size = sym e.size; places = sym e.places; blocks = λ p low. sym (e.blocks p (subst (λ n. p < n) (sym e.places) low)) }

or_true : (p : Bool) → (p || true) ≡ true
or_true true = refl
or_true false = refl

either_true : (p q : Bool) → (p || q) ≡ true → (p ≡ true) ⊎ (q ≡ true)
either_true true q e = inl refl
either_true false q e = inr e

module _ (im left : Image) (flying : InFlight) where
  abbrev pub SaysOld : ℕ → Type 0
  SaysOld d = SaysAs (ring_left im left d) (ring_at im d)

  abbrev pub SaysNew : ℕ → Type 0
  SaysNew d = SaysAs (ring_left im left d) (landed_at im d flying)

  -- the block of the header that flies to a journal
  abbrev pub block_of : (d : ℕ) → HeaderFliesTo im d flying → ℕ
  block_of d flies = content_block (every im d) flies.1.place

  -- of each of these journals it is known that it says what it said, or what it says with the header that flies to it: the blocks of these headers
  pub data Decided : List ℕ → List ℕ → Type 0 where
    none : Decided [] []
    old : (d : ℕ) (ds bs : List ℕ) → SaysOld d → Decided ds bs → Decided (d ∷ ds) bs
    new : (d : ℕ) (ds bs : List ℕ) (flies : HeaderFliesTo im d flying) → SaysNew d → Decided ds bs → Decided (d ∷ ds) (block_of d flies ∷ bs)

  pub decide : (ds : List ℕ) → ((i d : ℕ) → slice_get ds i ≡ Some d → SaysOld d ⊎ (HeaderFliesTo im d flying × SaysNew d)) → (bs : List ℕ) × Decided ds bs
  decide [] each = ([], none)
  decide (d ∷ ds) each =
      let rest = decide ds (λ i e at. each (suc i) e at) in
      elim (each 0 d refl) [
        | inl says ↦ (rest.0, old d ds rest.0 says rest.1)
        | inr is ↦ (block_of d is.0 ∷ rest.0, new d ds rest.0 is.0 is.1 rest.1)
      ]

  -- the block is that of the header that flies to one of these journals, which says what it says with it
  pub record IsTaken (ds : List ℕ) (b : ℕ) : Type 0 where
    pub index : ℕ
    pub dinode : ℕ
    pub at : slice_get ds index ≡ Some dinode
    pub flies : HeaderFliesTo im dinode flying
    pub says : SaysNew dinode
    pub is : block_of dinode flies ≡ b

  abbrev one_later : (d : ℕ) (ds : List ℕ) (b : ℕ) → IsTaken ds b → IsTaken (d ∷ ds) b
  one_later d ds b t = record { index = suc t.index; dinode = t.dinode; at = t.at; flies = t.flies; says = t.says; is = t.is }

  -- the header that flies to this journal is taken
  pub record TakesHeaderOf (d : ℕ) (bs : List ℕ) : Type 0 where
    pub flies : HeaderFliesTo im d flying
    pub says : SaysNew d
    pub taken : among bs (block_of d flies) ≡ true

  -- or all that are taken are those of others
  abbrev pub TakesOthers : ℕ → List ℕ → List ℕ → Type 0
  TakesOthers d ds bs = (b : ℕ) → among bs b ≡ true → (t : IsTaken ds b) × (t.dinode ≢ d)

  pub find : (ds bs : List ℕ) → Decided ds bs → (d : ℕ) → TakesHeaderOf d bs ⊎ TakesOthers d ds bs
  find _ _ none d = inr (λ b e. absurd (let no : false ≡ true = e in cc))
  find _ _ (old c ds bs says rest) d = elim (find ds bs rest d) [
    | inl takes ↦ inl takes
    | inr others ↦ inr (λ b e. let t = others b e in (one_later c ds b t.0, t.1))
  ]
  find _ _ (new c ds bs flies says rest) d = elim (find ds bs rest d) [
    | inl takes ↦ inl (record {
      flies = takes.flies;
      says = takes.says;
      taken = ap (λ x. (block_of d takes.flies == block_of c flies) || x) takes.taken ∙ or_true (block_of d takes.flies == block_of c flies);
    })
    | inr others ↦ elim (cases_eq c d) [
      | inl same ↦ inl (along same)
      | inr off ↦ inr (λ b e. elim (either_true (b == block_of c flies) (among bs b) e) [
        | inl is ↦ (record { index = 0; dinode = c; at = refl; flies = flies; says = says; is = sym (eqb-true b (block_of c flies) is) }, off)
        | inr later ↦ (let t = others b later in (one_later c ds b t.0, t.1))
      ])
    ]
  ]
    where
      own : TakesHeaderOf c (block_of c flies ∷ bs)
      own = record { flies = flies; says = says; taken = ap (λ x. x || among bs (block_of c flies)) (eq-eqb (block_of c flies) (block_of c flies) refl) }

      along : c ≡ d → TakesHeaderOf d (block_of c flies ∷ bs)
      along same = subst (λ n. TakesHeaderOf n (block_of c flies ∷ bs)) same own

  -- each that is taken is one of them
  pub taken_is : (ds bs : List ℕ) → Decided ds bs → (b : ℕ) → among bs b ≡ true → IsTaken ds b
  taken_is _ _ none b e = absurd (let no : false ≡ true = e in cc)
  taken_is _ _ (old c ds bs says rest) b e = one_later c ds b (taken_is ds bs rest b e)
  taken_is _ _ (new c ds bs flies says rest) b e = elim (either_true (b == block_of c flies) (among bs b) e) [
    | inl is ↦ record { index = 0; dinode = c; at = refl; flies = flies; says = says; is = sym (eqb-true b (block_of c flies) is) }
    | inr later ↦ one_later c ds b (taken_is ds bs rest b later)
  ]

  -- a journal of which no header is taken says what it said
  pub old_of : (ds bs : List ℕ) → Decided ds bs → (i d : ℕ) → slice_get ds i ≡ Some d → TakesOthers d ds bs → ((b : ℕ) (t : IsTaken ds b) → among bs b ≡ true → (f : HeaderFliesTo im d flying) → block_of d f ≡ b → t.dinode ≡ d) → SaysOld d
  old_of ds bs decided i d at others apart = by (says_one ds bs decided i at)
    where
      says_one : (ds bs : List ℕ) → Decided ds bs → (i : ℕ) → slice_get ds i ≡ Some d → SaysOld d ⊎ TakesHeaderOf d bs
      says_one _ _ none i at = absurd (none_some at)
      says_one _ _ (old c ds bs says rest) zero at = inl (subst SaysOld (some_same at) says)
      says_one _ _ (old c ds bs says rest) (suc i) at = says_one ds bs rest i at
      says_one _ _ (new c ds bs flies says rest) zero at =
          inr (subst (λ n. TakesHeaderOf n (block_of c flies ∷ bs)) (some_same at) (record { flies = flies; says = says; taken = ap (λ x. x || among bs (block_of c flies)) (eq-eqb (block_of c flies) (block_of c flies) refl) }))
      says_one _ _ (new c ds bs flies says rest) (suc i) at = elim (says_one ds bs rest i at) [
        | inl says ↦ inl says
        | inr takes ↦ inr (record {
          flies = takes.flies;
          says = takes.says;
          taken = ap (λ x. (block_of d takes.flies == block_of c flies) || x) takes.taken ∙ or_true (block_of d takes.flies == block_of c flies);
        })
      ]

      by : SaysOld d ⊎ TakesHeaderOf d bs → SaysOld d
      by (inl says) = says
      by (inr takes) =
          let t = others (block_of d takes.flies) takes.taken in
          absurd (t.1 (apart (block_of d takes.flies) t.0 takes.taken takes.flies refl))

-- ---- the image of the choice

module _ (im left : Image) (l : Layout) (flying : InFlight) (bs : List ℕ) (decided : Decided im left flying l.journals bs)
    (apart : (i j d e p q : ℕ) → IsJournalAt l i d → IsJournalAt l j e → p < (ring_at im d).places → q < (ring_at im e).places → content_block (every im d) p ≡ content_block (every im e) q → d ≡ e) where
  pub is_choice : IsChoice im l flying (among bs)
  is_choice b e = let t = taken_is im left flying l.journals bs decided b e in record { journal = t.index; dinode = t.dinode; at = t.at; flies = t.flies; is = t.is }

  -- where nothing flies it has what was there
  chosen_still : (b : ℕ) → flying b ≡ None → (chosen im flying (among bs)).at b ≡ im.at b
  chosen_still b free = each (among bs b)
    where
      each : (x : Bool) → (if x then unwrap_or (flying b) (im.at b) else im.at b) ≡ im.at b
      each true = ap (λ o. unwrap_or o (im.at b)) free
      each false = refl

  pub chosen_old : (b : ℕ) → among bs b ≡ false → (chosen im flying (among bs)).at b ≡ im.at b
  chosen_old b off = cond-false (among bs b) (unwrap_or (flying b) (im.at b)) (im.at b) off

  chosen_new : (b : ℕ) → among bs b ≡ true → (chosen im flying (among bs)).at b ≡ unwrap_or (flying b) (im.at b)
  chosen_new b on = cond-true (among bs b) (unwrap_or (flying b) (im.at b)) (im.at b) on

  module _ (j d : ℕ) (at : IsJournalAt l j d) where
    with_header : (takes : TakesHeaderOf im left flying d bs) → HasSamePlaces (landed_at im d flying) (ring_left im (chosen im flying (among bs)) d)
    with_header takes = record {
      size = refl;
      places = refl;
      blocks = λ p low. elim (cases_eq p takes.flies.1.place) [
        | inl is ↦ sym (chosen_new (content_block (every im d) p) (ap (λ q. among bs (content_block (every im d) q)) is ∙ takes.taken))
        | inr off ↦
            let free = takes.flies.1.alone p low off in
            ap (λ o. unwrap_or o (im.at (content_block (every im d) p))) free ∙ sym (chosen_still (content_block (every im d) p) free)
      ];
    }

    -- a header that is taken at one of its places is its own
    own_only : (b : ℕ) (t : IsTaken im left flying l.journals b) (p : ℕ) → p < (ring_at im d).places → content_block (every im d) p ≡ b → t.dinode ≡ d
    own_only b t p low is = apart t.index j t.dinode d t.flies.1.place p t.at at t.flies.1.inside low (t.is ∙ sym is)

    without : TakesOthers im left flying d l.journals bs → HasSamePlaces (ring_at im d) (ring_left im (chosen im flying (among bs)) d)
    without others = record {
      size = refl;
      places = refl;
      blocks = λ p low. elim (cases_Bool (among bs (content_block (every im d) p))) [
        | inr off ↦ sym (chosen_old (content_block (every im d) p) off)
        | inl on ↦ absurd (let t = others (content_block (every im d) p) on in t.1 (own_only (content_block (every im d) p) t.0 p low refl))
      ];
    }

    -- each journal says what it says in the image of the choice
    pub says_chosen : SaysAs (ring_left im left d) (ring_left im (chosen im flying (among bs)) d)
    says_chosen = elim (find im left flying l.journals bs decided d) [
      | inl takes ↦ says_along (ring_left im left d) (landed_at im d flying) (ring_left im (chosen im flying (among bs)) d) (with_header takes) takes.says
      | inr others ↦
          says_along (ring_left im left d) (ring_at im d) (ring_left im (chosen im flying (among bs)) d) (without others)
          (old_of im left flying l.journals bs decided j d at others (λ b t on f is. own_only b t f.1.place f.1.inside is))
    ]
