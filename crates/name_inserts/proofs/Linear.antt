-- A name that comes into a linear directory that has room for it.
use Rattle.std.proofs.Common.{◌≡◌, ◌≢◌, inl, inr, ℕ, ◌+◌, ◌≤◌, ◌&&◌, Bool, true, false, true≢false, List, [], ◌∷◌, None, Some, refl, sym, ap, ap₂, ◌∙◌, subst, cond, arith}
use Rattle.std.specs.Prelude.{Contains, IsSome, count_by}
use Rattle.std.specs.List.Sorted.{IsPermutation}
use Rattle.std.proofs.lemmas.List.Sums.{sum_by-cons}
use Rattle.std.proofs.lemmas.Slice.Eq.{bytes_eq-Decides}
use Rattle.std.specs.FinMap.{get, insert}
use Rattle.std.specs.Str.{bytes_eq}
use Rattle.std.proofs.lemmas.Bool.{cases_Bool, cases_eq, cond-false, cond-true}
use Rattle.drafts.specs.Fates.{Drafted, seen_in}
use Rattle.drafts.specs.declared.fate.Fate.TheVariants.{Put}
use Rattle.gfs2_layout.specs.Area.{slots_of}
use Rattle.gfs2_layout.specs.Holding.{Holding, bytes_at}
use Rattle.gfs2_layout.specs.Inode.{dinode_in, is_hashed_in, has_hash_flag, linear_area, records_of}
use Rattle.gfs2_layout.specs.Putting.{put_slot}
use Rattle.gfs2_layout.specs.Records.{Record, record_named}
use Rattle.gfs2_layout.specs.Structures.{is_directory}
use Rattle.gfs2_layout.specs.declared.dinode.Dinode.{Dinode}
use Rattle.glock_names.specs.Views.{Seen}
use Rattle.glock_names.specs.declared.steps.Entry.{Entry}
use Rattle.dinode_tree.specs.Reading.{inode_lock}
use Rattle.dinode_tree.specs.Shown as inode
use Rattle.dinode_tree.proofs.Sound.{sound_is_shown}
use Rattle.growth_drafts.specs.Taken.{HasTaken}
use Rattle.linear_dirs.specs.Exchanges.{HasExchanged, IsLaidOver, uncounted}
use Rattle.linear_dirs.specs.Shown.{head_for, holding_over, record_for}
use Rattle.linear_dirs.proofs.Over.{as_seen}
use Rattle.linear_dirs.proofs.Rewritten.{IsRewritten, bytes_new, bytes_same, over_there, part_same, rewritten}
use Rattle.finite_maps.proofs.Keys.{inserted_apart, inserted_at}
use Rattle.std.specs.Cmp.{nat_cmp_total}
use Rattle.std.specs.FinMap.{nat_cmp-IsAntisymmetric}
use Rattle.pointer_tables.specs.Directories.{IsPlaced}
use Rattle.hash_inserts.specs.Tables.{DraftsDirectory}
use Rattle.hash_inserts.specs.Shown.{IsSound}
use Rattle.hash_inserts.proofs.PutSteps.{none_counted}
use Rattle.hash_inserts.proofs.Sound.{count_moved}
use Rattle.directories.specs.Shown.{IsShown}
use Rattle.name_inserts.specs.Inserting.{CanGetName, IsPutInLinear, PutsName, in_linear, of_linear}
use Rattle.name_inserts.specs.Need.{has_linear_room, need_in_linear}

-- ---- one name more

abbrev one_or_none : Bool → ℕ
one_or_none b = cond b 1 0

one_name : (before after rest : List Record) (new : Record) (name : List ℕ) → new.name ≡ name → IsPermutation before rest → IsPermutation after (new ∷ rest) → record_named before name ≡ None → (other : List ℕ)
    → count_by (λ r. bytes_eq other r.name) before ≤ 1 → count_by (λ r. bytes_eq other r.name) after ≤ 1
one_name before after rest new name named left more fresh other was = elim (cases_Bool (bytes_eq other name)) [
  | inl same ↦
      let none : count_by test before ≡ 0 = subst (λ n. count_by (λ (q : Record). bytes_eq n q.name) before ≡ 0) (sym ((bytes_eq-Decides other name).0 same)) (none_counted (λ q. bytes_eq name q.name) before fresh) in
      let one : one_or_none (bytes_eq other new.name) ≡ 1 = ap (λ n. one_or_none (bytes_eq other n)) named ∙ ap one_or_none same in
      omega (arith, kept, all, split, none, one)
  | inr differs ↦
      let none : one_or_none (bytes_eq other new.name) ≡ 0 = ap (λ n. one_or_none (bytes_eq other n)) named ∙ ap one_or_none differs in
      omega (arith, kept, all, split, was, none)
]
  where
    test : Record → Bool
    test q = bytes_eq other q.name

    kept : count_by test rest ≡ count_by test before
    kept = count_moved test before rest left

    all : count_by test (new ∷ rest) ≡ count_by test after
    all = count_moved test after (new ∷ rest) more

    split : count_by test (new ∷ rest) ≡ one_or_none (bytes_eq other new.name) + count_by test rest
    split = sum_by-cons (λ q. cond (test q) 1 0) new rest

-- what was done to the directory's block, and what is so of it then
pub record IsPutSo {V : Type 0} (seen : V → Seen) (old new : Drafted V) (dir : ℕ) (h : Holding) (name : List ℕ) (e : Entry) (bytes : List ℕ) : Type 0 where
  pub put : new ≡ record old { fates = insert old.fates dir (Put (inode_lock dir) false bytes) }
  pub exchanged : HasExchanged h (holding_over (seen_in seen new) h) [] (record_for name e ∷ [])
  pub slots : put_slot (head_for name e) name (slots_of (linear_area h)) ≡ Some (slots_of (linear_area (holding_over (seen_in seen new) h)))
  pub dinode : uncounted (dinode_in (holding_over (seen_in seen new) h)) ≡ uncounted (dinode_in h)
  pub laid : IsLaidOver (bytes_at h h.own) (bytes_at (holding_over (seen_in seen new) h) h.own)

module _ {V : Type 0} (seen : V → Seen) (old new : Drafted V) (dir : ℕ) (h : Holding) (name : List ℕ) (e : Entry) (bytes : List ℕ) (shown : inode.IsShown (seen_in seen old) dir h) (is : IsPutSo seen old new dir h name e bytes) where
  abbrev pub after : Holding
  after = holding_over (seen_in seen new) h

  again : IsRewritten (seen_in seen new) h bytes
  again = rewritten seen old new dir h (inode_lock dir) bytes shown is.put

  pub put_in_linear : IsPutInLinear h after name e
  put_in_linear = record {
    dinode = is.dinode;
    counted = is.exchanged.counted;
    slots = is.slots;
    bytes = is.laid;
    parts = part_same (seen_in seen new) h bytes again;
    others = bytes_same (seen_in seen new) h bytes again;
  }

  -- ---- the directory afterwards

  linear_after : is_hashed_in h ≡ false → is_hashed_in after ≡ false
  linear_after plain = ap (λ (d : Dinode). is_directory d && has_hash_flag d) is.dinode ∙ plain

  some_before : (b : ℕ) → IsSome (after.cell b) → IsSome (h.cell b)
  some_before b some = sym (over_there ((seen_in seen new).block_at b) (h.cell b)) ∙ some

  some_after : (b : ℕ) → IsSome (h.cell b) → IsSome (after.cell b)
  some_after b some = over_there ((seen_in seen new).block_at b) (h.cell b) ∙ some

  placed_after : IsPlaced h → IsPlaced after
  placed_after placed = record {
    own = part_same (seen_in seen new) h bytes again h.own ∙ placed.own;
    only = λ b itself. placed.only b (sym (part_same (seen_in seen new) h bytes again b) ∙ itself);
    nobody = part_same (seen_in seen new) h bytes again 0 ∙ placed.nobody;
    inside = λ b some. placed.inside b (some_before b some);
  }

  once_after : ((other : List ℕ) → count_by (λ r. bytes_eq other r.name) (records_of h) ≤ 1) → record_named (records_of h) name ≡ None → (other : List ℕ) → count_by (λ r. bytes_eq other r.name) (records_of after) ≤ 1
  once_after once fresh other = one_name (records_of h) (records_of after) is.exchanged.records.rest (record_for name e) name refl is.exchanged.records.before is.exchanged.records.after fresh other (once other)

  sound_after : IsSound h → record_named (records_of h) name ≡ None → IsSound after
  sound_after sound fresh = record {
    block_size = sound.block_size;
    inode = is.exchanged.sound sound.inode;
    placed = placed_after sound.placed;
    once = once_after sound.once fresh;
  }

  pub shown_after : IsSound h → is_hashed_in h ≡ false → IsShown (seen_in seen new) dir after
  shown_after sound plain = record {
    inode = subst (λ a. inode.IsShown (seen_in seen new) a after) shown.own (sound_is_shown (seen_in seen new) after (is.exchanged.sound sound.inode) (part_same (seen_in seen new) h bytes again h.own ∙ sound.placed.own) size_after (as_seen (seen_in seen new) h));
    leaves = λ hashed. absurd (true≢false (sym hashed ∙ linear_after plain));
    whole = λ hashed. absurd (true≢false (sym hashed ∙ linear_after plain));
  }
    where
      size_after : h.size ≡ (seen_in seen new).size
      size_after = shown.size ∙ sym (ap (λ (d : Drafted V). (seen d.view).size) is.put)

  -- ---- in the draft

  fates_are : new.fates ≡ insert old.fates dir (Put (inode_lock dir) false bytes)
  fates_are = ap (λ (d : Drafted V). d.fates) is.put

  fate_own : get new.fates dir ≡ Some (Put (inode_lock dir) false bytes)
  fate_own = ap (λ m. get m dir) fates_are ∙ inserted_at nat_cmp_total nat_cmp-IsAntisymmetric old.fates dir (Put (inode_lock dir) false bytes)

  pub fate_other : (b : ℕ) → b ≢ dir → get new.fates b ≡ get old.fates b
  fate_other b other = ap (λ m. get m b) fates_are ∙ inserted_apart nat_cmp_total nat_cmp-IsAntisymmetric old.fates dir (Put (inode_lock dir) false bytes) b other

  drafted : DraftsDirectory old.fates new.fates h after
  drafted = record {
    own = λ b some. elim (cases_eq b dir) [
      | inl own ↦ inr (ap (get new.fates) own ∙ fate_own ∙ ap₂ (λ a x. Some (Put (inode_lock a) false x)) (sym shown.own) (sym (ap (bytes_at after) (own ∙ sym shown.own) ∙ bytes_new (seen_in seen new) h bytes again)))
      | inr other ↦ inl (fate_other b other, bytes_same (seen_in seen new) h bytes again b (λ own. other (own ∙ shown.own)))
    ];
    others = λ b none. fate_other b (λ own. none (some_after b (subst (λ a. IsSome (h.cell a)) (shown.own ∙ sym own) shown.dinode)));
  }

  has_taken : HasTaken h after []
  has_taken = record { count = refl; blocks = λ b. (λ some. inl (some_before b some), λ either. elim either [ inl had ↦ some_after b had | inr taken ↦ absurd (none_in b taken) ]) }
    where
      none_in : (b : ℕ) → Contains [] b → ⊥
      none_in b there = omega (arith, there.1)

  pub puts_linear : (room : List ℕ) → CanGetName h name room → is_hashed_in h ≡ false → has_linear_room h name ≡ true → PutsName old.fates new.fates room room name e h after
  puts_linear room can plain fits = record {
    taken = [];
    few = sym (cond-false (is_hashed_in h) _ (need_in_linear h name) plain ∙ cond-true (has_linear_room h name) 0 _ fits);
    front = refl;
    has = has_taken;
    drafted = drafted;
    changes = λ b. elim (cases_eq b dir) [
      | inl own ↦ inr (of_linear plain fits (own ∙ sym shown.own))
      | inr other ↦ inl (fate_other b other)
    ];
    named = in_linear h after plain fits put_in_linear;
    exchanged = is.exchanged;
    sound = sound_after can.sound can.absent;
  }
