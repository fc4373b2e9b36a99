-- Where a name's record stands in a directory, as a view shows it.
use Rattle.std.proofs.Common.{◌≡◌, ◌≢◌, ℕ, ◌+◌, ◌⊎◌, inl, inr, Bool, true, false, true≢false, List, drop, Option, None, Some, refl, sym, ap, ◌∙◌, subst, arith}
use Rattle.std.specs.Prelude.{◌&&◌, if◌then◌else◌}
use Rattle.std.proofs.lemmas.Bool.{cases_Bool}
use Rattle.gfs2_layout.specs.Area.{IsArea}
use Rattle.gfs2_layout.specs.Holding.{Holding, bytes_at}
use Rattle.gfs2_layout.specs.Inode.{dinode_in, has_hash_flag, is_directory_in, is_hashed_in, leaf_length, linear_area}
use Rattle.gfs2_layout.specs.Records.{Record, record_named, records_in}
use Rattle.gfs2_layout.specs.Structures.{dinode_length}
use Rattle.gfs2_layout.specs.declared.dinode.Dinode.{Dinode}
use Rattle.glock_names.specs.Views.{Seen, IsView}
use Rattle.linear_dirs.specs.Broken as linear
use Rattle.linear_dirs.proofs.Looked.{bytes_of}
use Rattle.resource_groups.specs.Putting.{HasDataBlock}
use Rattle.resource_groups.proofs.Fits.{fit_of}
use Rattle.hash_dirs.specs.Broken as leaves
use Rattle.hash_dirs.specs.Finding.{AreLeafHeads, IsLeafOfName, IsNamedLater, in_none, in_this, named_in}
use Rattle.hash_dirs.specs.Shown.{IsInChain, index_for}
use Rattle.hash_dirs.proofs.Leaves.{bytes_there, led_to}
use Rattle.directories.specs.Shown.{IsBroken, IsShown}
use Rattle.directories.specs.Taking.{HasNameIn, HasRecordOf, in_hashed, in_linear}
use Rattle.directories.proofs.Forms.{hashed_here, leaves_shown, linear_here, some_directory}
use Rattle.directories.proofs.Taken.{named_linear}
use Rattle.name_redirects.specs.Redirects.{records_from}

-- the name's record is in this leaf
pub record InLeaf (h : Holding) (name : List ℕ) (x : ℕ) : Type 0 where
  pub place : ℕ
  pub is : Record
  pub chain : IsInChain h (index_for h name) place x
  pub named : named_in h name x ≡ Some is
  pub later : IsNamedLater h (index_for h name) name place
  pub heads : AreLeafHeads h (index_for h name) (place + 1)

inside : (x y : ℕ) → Some x ≡ Some y → x ≡ y
inside x y e = cc

nothing : (x : ℕ) → ◌≡◌ {A = Option ℕ} None (Some x) → ⊥
nothing x e = cc

in_some : (h : Holding) (name : List ℕ) (o : Option ℕ) → IsLeafOfName h name o → (x : ℕ) → o ≡ Some x → InLeaf h name x
in_some h name _ (in_this place y r chain named later heads) x e = subst (InLeaf h name) (inside y x e) (record { place = place; is = r; chain = chain; named = named; later = later; heads = heads })
in_some h name _ (in_none ends none heads) x e = absurd (nothing x e)

-- in the dinode's block of a linear directory, or in a leaf of a hashed one
pub where_of : (h : Holding) (name : List ℕ) (b : ℕ) → HasRecordOf h name b → ((is_hashed_in h ≡ false) × (b ≡ h.own)) ⊎ ((is_hashed_in h ≡ true) × InLeaf h name b)
where_of h name _ (in_linear plain) = inl (plain, refl)
where_of h name _ (in_hashed x is leaf) = inr (is, in_some h name (Some x) leaf x refl)

-- the records begin where the dinode's flag says
pub starts_at : (h : Holding) (d : Dinode) (start : ℕ) → d ≡ dinode_in h → is_directory_in h ≡ true → start ≡ (if has_hash_flag d then leaf_length else dinode_length) → start ≡ records_from h
starts_at h d start is directory e =
    let flag : is_hashed_in h ≡ has_hash_flag d = ap (λ (b : Bool). b && has_hash_flag (dinode_in h)) directory ∙ ap has_hash_flag (sym is) in
    e ∙ ap (λ (b : Bool). if b then leaf_length else dinode_length) (sym flag)

pub positive : (v : Seen) → IsView v → (b : ℕ) → HasDataBlock v b → b ≢ 0
positive v shows b lies none = let fit = fit_of v lies.0 shows lies.1 in omega (arith, lies.2.low, fit.first, fit.above, none)

module _ (v : Seen) (shows : IsView v) (dir block : ℕ) (name : List ℕ) (lies : HasDataBlock v block) where
  -- the bytes of the leaf that has it
  pub leaf_bytes : (h : Holding) (bytes : List ℕ) → IsShown v dir h → is_hashed_in h ≡ true → InLeaf h name block → v.block_at block ≡ Some bytes → bytes_at h block ≡ bytes
  leaf_bytes h bytes shown is leaf at =
      let led = led_to h (index_for h name) leaf.place block leaf.chain in
      bytes_there v dir h (index_for h name) led.0 block bytes (leaves_shown v dir h shown is) led.1 (positive v shows block lies) at

  module _ (d : Dinode) (start : ℕ) (named : HasNameIn v dir name) (dinode : (h : Holding) → IsShown v dir h → d ≡ dinode_in h) (directory : (h : Holding) → IsShown v dir h → is_directory_in h ≡ true)
      (begins : start ≡ (if has_hash_flag d then leaf_length else dinode_length)) (from : (h : Holding) → IsShown v dir h → HasRecordOf h name block) where
    -- the block has a record of the name
    pub named_in_block : (bytes : List ℕ) → v.block_at block ≡ Some bytes → (r : Record) × (record_named (records_in (drop start bytes)) name ≡ Some r)
    named_in_block bytes at = elim (cases_Bool (has_hash_flag d)) [
      | inl flag ↦
          let is = hashed_here s.0 d (dinode s.0 s.1) (directory s.0 s.1) flag in
          elim (where_of s.0 name block (from s.0 s.1)) [
            | inl plain ↦ absurd (true≢false (sym is ∙ plain.0))
            | inr leaf ↦ (
              leaf.1.is,
              ap (λ (n : ℕ). record_named (records_in (drop n bytes)) name) (begins ∙ ap (λ (b : Bool). if b then leaf_length else dinode_length) flag)
                  ∙ ap (λ (b : List ℕ). record_named (records_in (drop leaf_length b)) name) (sym (leaf_bytes s.0 bytes s.1 is leaf.1 at)) ∙ leaf.1.named,
            )
          ]
      | inr flag ↦
          let plain = λ (h : Holding) (shown : IsShown v dir h). linear_here h d (dinode h shown) flag in
          elim (where_of s.0 name block (from s.0 s.1)) [
            | inl own ↦
                let r = named_linear v dir name shows plain named bytes (ap v.block_at (sym (own.1 ∙ s.1.inode.own)) ∙ at) in
                (r.0, ap (λ (n : ℕ). record_named (records_in (drop n bytes)) name) (begins ∙ ap (λ (b : Bool). if b then leaf_length else dinode_length) flag) ∙ r.1)
            | inr leaf ↦ absurd (true≢false (sym leaf.0 ∙ plain s.0 s.1))
          ]
    ]
      where
        s : (h : Holding) × IsShown v dir h
        s = some_directory v dir shows

    -- where no records fill that part of it, the directory is broken
    pub unfilled_breaks : (h : Holding) (old : List ℕ) → IsShown v dir h → v.block_at block ≡ Some old → (rule b : ℕ) → (rule ≡ 9) × (b ≡ block) × (¬ (IsArea (drop start old))) → IsBroken v h rule b
    unfilled_breaks h old shown at rule b (nine, here, unfilled) = elim (where_of h name block (from h shown)) [
      | inl own ↦
          let area : drop start old ≡ linear_area h =
          ap (λ (n : ℕ). drop n old) (starts_at h d start (dinode h shown) (directory h shown) begins ∙ ap (λ (t : Bool). if t then leaf_length else dinode_length) own.0)
          ∙ ap (drop dinode_length) (sym (bytes_of v h dir old shown.inode (ap v.block_at (sym (own.1 ∙ shown.inode.own)) ∙ at))) in
          subst (λ (n : ℕ). IsBroken v h n b) (sym nine) (subst (IsBroken v h 9) (sym (here ∙ own.1)) (IsBroken.in_linear (directory h shown) own.0 (linear.no_area (λ is. unfilled (subst IsArea (sym area) is)))))
      | inr leaf ↦
          let led = led_to h (index_for h name) leaf.1.place block leaf.1.chain in
          let area : drop start old ≡ drop leaf_length (bytes_at h block) =
          ap (λ (n : ℕ). drop n old) (starts_at h d start (dinode h shown) (directory h shown) begins ∙ ap (λ (t : Bool). if t then leaf_length else dinode_length) leaf.0)
          ∙ ap (drop leaf_length) (sym (leaf_bytes h old shown leaf.0 leaf.1 at)) in
          subst (λ (n : ℕ). IsBroken v h n b) (sym nine)
          (subst (IsBroken v h 9) (sym here) (IsBroken.in_hashed leaf.0 (leaves.breaks 9 block (leaves.unfilled (index_for h name) led.0 block led.1 (positive v shows block lies) (λ is. unfilled (subst IsArea (sym area) is))))))
    ]
