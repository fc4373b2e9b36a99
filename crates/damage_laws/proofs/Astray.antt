-- A hashed directory whose blocks are all on the device is whole; or a block of it is beyond.
use Rattle.std.proofs.Common.{◌≡◌, ℕ, ◌<◌, ◌≤◌, ◌⊎◌, inl, inr, Bool, true, false, true≢false, Option, None, Some, refl, sym, ap, ◌∙◌, arith}
use Rattle.std.proofs.lemmas.Bool.{cases_lt, cond-true, cond-false, lt-ltb, le-ltb}
use Rattle.std.specs.Prelude.{nat_lt, if◌then◌else◌}
use Rattle.gfs2_layout.specs.Device.{IsBlockSize}
use Rattle.gfs2_layout.specs.Inode.{Leads, is_hashed_in, content_count}
use Rattle.dinode_tree.specs.Reading.{AreWholeBefore, block_at}
use Rattle.image_model.specs.Claims.{every, below, HasDirectory}
use Rattle.image_model.specs.Image.{Image, IsImage}
use Rattle.image_model.specs.Owners.{Below}
use Rattle.file_calls.proofs.Led.{content_led}
use Rattle.damage_laws.specs.Telling.{IsAstray}
use Rattle.damage_laws.proofs.Search.{seek}

-- ---- of an image

pub size_some : (n : ℕ) → IsBlockSize n → 512 ≤ n
size_some n is = omega arith

abbrev is_beyond : ℕ → Option ℕ → Bool
is_beyond count None = false
is_beyond count (Some b) = if nat_lt b count then false else true

module _ (im : Image) (is : IsImage im) (a : ℕ) where
  pub led_beyond : HasDirectory im a → is_hashed_in (every im a) ≡ true → (from k level first b : ℕ) → Leads (every im a) from k level first b → im.count ≤ b → IsAstray im a from
  led_beyond has hashed from k level first b leads out = record {
    directory = has;
    hashed = hashed;
    block = b;
    owner = Below a from k level first;
    claimed = below has.inode.1.by a has.inode.0 from k level first b has.inode.1.claimed has.inode.1.dinode leads;
    within = refl;
    beyond = out;
  }

  pub whole_or_out : ((at : ℕ) → AreWholeBefore (every im a) at) ⊎ ((from k level first b : ℕ) × Leads (every im a) from k level first b × (im.count ≤ b))
  whole_or_out = elim (seek (λ i. is_beyond im.count (block_at (every im a) i)) (content_count (every im a))) [
    | inl found ↦
        let out = beyond_at (block_at (every im a) found.0) found.2 in
        let led = content_led (every im a) (size_some im.size is.block_size) found.0 out.0 out.1 in
        inr (led.0, led.1, led.2, led.3, out.0, led.4, out.2)
    | inr none ↦ inl (λ at i b low counted here. is.whole b (inside i b (none i counted) here))
  ]
    where
      beyond_at : (o : Option ℕ) → is_beyond im.count o ≡ true → (b : ℕ) × (o ≡ Some b) × (im.count ≤ b)
      beyond_at None e = absurd (true≢false (sym e))
      beyond_at (Some b) e = elim (cases_lt b im.count) [
        | inl low ↦ absurd (true≢false (sym e ∙ cond-true (nat_lt b im.count) false true (lt-ltb b im.count low)))
        | inr out ↦ (b, refl, out)
      ]

      inside : (i b : ℕ) → is_beyond im.count (block_at (every im a) i) ≡ false → block_at (every im a) i ≡ Some b → b < im.count
      inside i b none here = elim (cases_lt b im.count) [
        | inl low ↦ low
        | inr out ↦ absurd (true≢false (sym (cond-false (nat_lt b im.count) false true (le-ltb b im.count out)) ∙ ap (is_beyond im.count) (sym here) ∙ none))
      ]

  pub whole_or : HasDirectory im a → is_hashed_in (every im a) ≡ true → ((at : ℕ) → AreWholeBefore (every im a) at) ⊎ ((x : ℕ) × IsAstray im a x)
  whole_or has hashed = elim whole_or_out [
    | inl whole ↦ inl whole
    | inr out ↦ inr (out.0, led_beyond has hashed out.0 out.1 out.2 out.3 out.4 out.5 out.6)
  ]
