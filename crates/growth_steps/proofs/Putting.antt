-- A draft that puts blocks of a file, one after another, and the file that it then shows.
use Rattle.std.proofs.Common.{◌≡◌, ◌≢◌, ℕ, inl, inr, Bool, true, false, List, [], Option, Some, refl, sym, ap, subst, ◌∙◌, arith}
use Rattle.std.proofs.lemmas.Bool.{cases_eq, cond-false, ne_eqb}
use Rattle.std.specs.Prelude.{IsSome, ◌↔◌}
use Rattle.std.specs.Cmp.{nat_cmp_total}
use Rattle.std.specs.Ordering.{nat_cmp}
use Rattle.std.specs.FinMap.{FinMap, get, insert, nat_cmp-IsAntisymmetric}
use Rattle.finite_maps.proofs.Keys.{inserted_at, inserted_apart}
use Rattle.drafts.specs.Fates.{Drafted, block_with, seen_in, seen_with}
use Rattle.drafts.specs.declared.fate.Fate.{Fate}
use Rattle.drafts.specs.declared.fate.Fate.TheVariants.{Put}
use Rattle.gfs2_layout.specs.Holding.{Part, Itself, Cell, Holding, cell_part, cell_bytes, part_at, bytes_at}
use Rattle.glock_names.specs.Views.{Seen}
use Rattle.dinode_tree.specs.Reading.{inode_lock}
use Rattle.dinode_tree.specs.Shown.{IsAsSeen, IsShown}
use Rattle.dinode_tree.proofs.Sound.{is_there}
use Rattle.growth_laws.specs.Blocks.{rewritten_cells}
use Rattle.growth_laws.specs.Files.{IsFile, with_cells}
use Rattle.growth_laws.proofs.Parts.{not_itself}
use Rattle.growth_laws.proofs.Pointing.{rewrites_keep_the_rest}
use Rattle.growth_drafts.specs.Taken.{IsContentIn, IsLeft, IsPutFor, DraftsFile}
use Rattle.growth_drafts.proofs.Shown.{files_are_shown}
use Rattle.growth_steps.specs.Becoming.{Becomes}

-- a block that another file of the same image had with the same bytes, as content or not
pub record IsKept (h g : Holding) (y : ℕ) : Type 0 where
  pub had : IsSome (h.cell y)
  pub bytes : bytes_at g y ≡ bytes_at h y
  pub content : IsContentIn g y ↔ IsContentIn h y

-- ---- one fate more

fate_at : (m : FinMap nat_cmp Fate) (x : ℕ) (fate : Fate) → get (insert m x fate) x ≡ Some fate
fate_at m x fate = inserted_at nat_cmp_total nat_cmp-IsAntisymmetric m x fate

fate_apart : (m : FinMap nat_cmp Fate) (x y : ℕ) (fate : Fate) → y ≢ x → get (insert m x fate) y ≡ get m y
fate_apart m x y fate other = inserted_apart nat_cmp_total nat_cmp-IsAntisymmetric m x fate y other

some_same : (xs ys : List ℕ) → Some xs ≡ Some ys → xs ≡ ys
some_same xs ys e = cc

-- ---- one put

module _ (v : Seen) (fates : FinMap nat_cmp Fate) (h : Holding) (cell : ℕ → Option Cell) (x : ℕ) (plain : Bool) (bytes : List ℕ) (some : IsSome (cell x)) (here : bytes_at (with_cells h cell) x ≡ bytes)
    (rest : (y : ℕ) → y ≢ x → IsSome (cell y) → IsKept h (with_cells h cell) y) where
  pub put_is_seen : IsAsSeen (seen_with v fates) h → IsAsSeen (seen_with v (insert fates x (Put (inode_lock h.own) plain bytes))) (with_cells h cell)
  put_is_seen seen y found there is = elim (cases_eq y x) [
    | inl same ↦
        ap (bytes_at (with_cells h cell)) same ∙ here
        ∙ some_same bytes found (sym (ap (λ f. block_with f (v.block_at y)) (ap (get (insert fates x (Put (inode_lock h.own) plain bytes))) same ∙ fate_at fates x (Put (inode_lock h.own) plain bytes))) ∙ is)
    | inr other ↦
        let kept = rest y other there in
        kept.bytes ∙ seen y found kept.had (ap (λ f. block_with f (v.block_at y)) (sym (fate_apart fates x y (Put (inode_lock h.own) plain bytes) other)) ∙ is)
  ]

  pub put_is_drafted : (plain ≡ true) ↔ IsContentIn (with_cells h cell) x → DraftsFile fates (insert fates x (Put (inode_lock h.own) plain bytes)) h (with_cells h cell) []
  put_is_drafted tells = record {
    own = λ y there. elim (cases_eq y x) [
      | inl same ↦ inr (subst (IsPutFor (insert fates x (Put (inode_lock h.own) plain bytes)) (with_cells h cell)) (sym same)
          (record { plain = plain; fate = fate_at fates x (Put (inode_lock h.own) plain bytes) ∙ ap (λ xs. Some (Put (inode_lock h.own) plain xs)) (sym here); content = tells }))
      | inr other ↦ let kept = rest y other there in
          inl (record { fate = fate_apart fates x y (Put (inode_lock h.own) plain bytes) other; had = kept.had; bytes = kept.bytes; content = kept.content })
    ];
    frees = λ y freed. absurd (omega (arith, freed.1));
    others = λ y none freed. fate_apart fates x y (Put (inode_lock h.own) plain bytes) (λ same. none (subst (λ z. IsSome (cell z)) (sym same) some));
  }

-- ---- one draft over another

left_on : (old mid new : FinMap nat_cmp Fate) (h m g : Holding) (b : ℕ) → IsLeft old mid h m b → IsLeft mid new m g b → IsLeft old new h g b
left_on old mid new h m g b first second = record {
  fate = second.fate ∙ first.fate;
  had = first.had;
  bytes = second.bytes ∙ first.bytes;
  content = (λ is. first.content.0 (second.content.0 is), λ is. second.content.1 (first.content.1 is));
}

put_on : (mid new : FinMap nat_cmp Fate) (m g : Holding) (b : ℕ) → g.own ≡ m.own → IsPutFor mid m b → IsLeft mid new m g b → IsPutFor new g b
put_on mid new m g b own first second = record {
  plain = first.plain;
  fate = second.fate ∙ first.fate ∙ (λ t. Some (Put (inode_lock (sym own t)) first.plain (sym second.bytes t)));
  content = (λ is. second.content.1 (first.content.0 is), λ is. first.content.1 (second.content.0 is));
}

pub drafts_on : (old mid new : FinMap nat_cmp Fate) (h m g : Holding) → g.own ≡ m.own → ((b : ℕ) → IsSome (m.cell b) → IsSome (g.cell b))
    → DraftsFile old mid h m [] → DraftsFile mid new m g [] → DraftsFile old new h g []
drafts_on old mid new h m g own more first second = record {
  own = λ b there. elim (second.own b there) [
    | inr put ↦ inr put
    | inl left ↦ elim (first.own b left.had) [
      | inl before ↦ inl (left_on old mid new h m g b before left)
      | inr put ↦ inr (put_on mid new m g b own put left)
    ]
  ];
  frees = λ b freed. absurd (omega (arith, freed.1));
  others = λ b none freed. second.others b none freed ∙ first.others b (λ some. none (more b some)) freed;
}

-- a draft that does nothing drafts the file that it shows
pub drafts_nothing : (old : FinMap nat_cmp Fate) (h : Holding) → DraftsFile old old h h []
drafts_nothing old h = record {
  own = λ b there. inl (record { fate = refl; had = there; bytes = refl; content = (λ is. is, λ is. is) });
  frees = λ b freed. absurd (omega (arith, freed.1));
  others = λ b none freed. refl;
}

-- ---- other bytes in one block of the file

pub rewritten_rest : (h : Holding) (x : ℕ) (bytes : List ℕ) (y : ℕ) → y ≢ x → IsSome (rewritten_cells h x bytes y) → IsKept h (with_cells h (rewritten_cells h x bytes)) y
rewritten_rest h x bytes y other there =
    let same : rewritten_cells h x bytes y ≡ h.cell y = cond-false _ _ _ (ne_eqb y x other) in
    record {
      had = subst IsSome same there;
      bytes = ap cell_bytes same;
      content = (λ c. (c.0, c.1, c.2, sym (ap cell_part same) ∙ c.3), λ c. (c.0, c.1, c.2, ap cell_part same ∙ c.3));
    }

pub becomes_rewritten : {V : Type 0} (seen : V → Seen) (old now : Drafted V) (inode x : ℕ) (p : Part) (plain : Bool) (bytes : List ℕ) (h : Holding) → IsShown (seen_in seen old) inode h → part_at h x ≡ Some p
    → now ≡ record old { fates = insert old.fates x (Put (inode_lock inode) plain bytes) } → IsFile (with_cells h (rewritten_cells h x bytes)) → (plain ≡ true) ↔ IsContentIn h x
    → Becomes (seen_in seen now) old.fates now.fates inode h (with_cells h (rewritten_cells h x bytes))
becomes_rewritten {V} seen old now inode x p plain bytes h shown part is file' tells =
    let kept = rewrites_keep_the_rest h x p bytes part in
    let some : IsSome (rewritten_cells h x bytes x) = is_there (rewritten_cells h x bytes x) p (kept.0 x ∙ part) in
    subst (λ (d : Drafted V). Becomes (seen_in seen d) old.fates d.fates inode h (with_cells h (rewritten_cells h x bytes))) (sym is)
    (subst (λ a. Becomes (seen_with (seen old.view) (insert old.fates x (Put (inode_lock a) plain bytes))) old.fates (insert old.fates x (Put (inode_lock a) plain bytes)) a h (with_cells h (rewritten_cells h x bytes))) shown.own
    (record {
      shown = files_are_shown _ (with_cells h (rewritten_cells h x bytes)) file' shown.size
          (put_is_seen (seen old.view) old.fates h (rewritten_cells h x bytes) x plain bytes some kept.1 (rewritten_rest h x bytes) shown.same);
      drafted = put_is_drafted (seen old.view) old.fates h (rewritten_cells h x bytes) x plain bytes some kept.1 (rewritten_rest h x bytes)
          (λ e. let c = tells.0 e in (c.0, c.1, c.2, kept.0 x ∙ c.3), λ c. tells.1 (c.0, c.1, c.2, sym (kept.0 x) ∙ c.3));
    }))

-- the dinode's block is no content
pub own_is_no_content : (h : Holding) → IsFile h → (false ≡ true) ↔ IsContentIn h h.own
own_is_no_content h file = (λ e. absurd (cc), λ c. absurd (not_itself _ _ _ _ (sym file.own ∙ c.3)))

-- ---- other bytes in the dinode's block, and then a block that is new

pub becomes_by_two : {V : Type 0} (seen : V → Seen) (old now : Drafted V) (inode b : ℕ) (plain : Bool) (own new : List ℕ) (h : Holding) (cell : ℕ → Option Cell) → IsFile h → IsFile (with_cells h cell)
    → IsShown (seen_in seen old) inode h → now ≡ record old { fates = insert (insert old.fates inode (Put (inode_lock inode) false own)) b (Put (inode_lock inode) plain new) }
    → IsSome (cell b) → bytes_at (with_cells h cell) b ≡ new → (plain ≡ true) ↔ IsContentIn (with_cells h cell) b
    → ((y : ℕ) → y ≢ b → IsSome (cell y) → IsKept (with_cells h (rewritten_cells h h.own own)) (with_cells h cell) y)
    → ((y : ℕ) → IsSome (rewritten_cells h h.own own y) → IsSome (cell y)) → Becomes (seen_in seen now) old.fates now.fates inode h (with_cells h cell)
becomes_by_two {V} seen old now inode b plain own new h cell file file' shown is there here tells rest more =
    let kept = rewrites_keep_the_rest h h.own Itself own file.own in
    let own_there : IsSome (rewritten_cells h h.own own h.own) = is_there (rewritten_cells h h.own own h.own) Itself (kept.0 h.own ∙ file.own) in
    let none = own_is_no_content h file in
    let no_content : (false ≡ true) ↔ IsContentIn (with_cells h (rewritten_cells h h.own own)) h.own
    = (λ e. absurd (cc), λ c. none.1 (c.0, c.1, c.2, sym (kept.0 h.own) ∙ c.3)) in
    subst (λ (x : Drafted V). Becomes (seen_in seen x) old.fates x.fates inode h (with_cells h cell)) (sym is)
    (subst (λ a. Becomes (seen_with (seen old.view) (insert (insert old.fates a (Put (inode_lock a) false own)) b (Put (inode_lock a) plain new))) old.fates (insert (insert old.fates a (Put (inode_lock a) false own)) b (Put (inode_lock a) plain new)) a h (with_cells h cell)) shown.own
    (record {
      shown = files_are_shown _ (with_cells h cell) file' shown.size
          (put_is_seen (seen old.view) (insert old.fates h.own (Put (inode_lock h.own) false own)) (with_cells h (rewritten_cells h h.own own)) cell b plain new there here rest
          (put_is_seen (seen old.view) old.fates h (rewritten_cells h h.own own) h.own false own own_there kept.1 (rewritten_rest h h.own own) shown.same));
      drafted = drafts_on old.fates (insert old.fates h.own (Put (inode_lock h.own) false own)) _ h (with_cells h (rewritten_cells h h.own own)) (with_cells h cell) refl more
          (put_is_drafted (seen old.view) old.fates h (rewritten_cells h h.own own) h.own false own own_there kept.1 (rewritten_rest h h.own own) no_content)
          (put_is_drafted (seen old.view) (insert old.fates h.own (Put (inode_lock h.own) false own)) (with_cells h (rewritten_cells h h.own own)) cell b plain new there here rest tells);
    }))

-- what the draft saw of the dinode's block
pub own_seen : (v : Seen) (inode : ℕ) (bytes : List ℕ) (h : Holding) → IsShown v inode h → v.block_at inode ≡ Some bytes → bytes_at h h.own ≡ bytes
own_seen v inode bytes h shown there = shown.same h.own bytes shown.dinode (ap v.block_at shown.own ∙ there)
