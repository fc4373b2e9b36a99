-- Contents as an image, and an image as contents.
use Rattle.std.proofs.Common.{◌≡◌, ℕ, zero, suc, ◌<◌, ◌≤◌, inl, inr, true, List, [], ◌∷◌, length, refl, sym, ap, ◌∙◌, subst, arith}
use Rattle.std.specs.Prelude.{nat_lt, if◌then◌else◌}
use Rattle.std.proofs.lemmas.Bool.{cases_lt, cond-true, cond-false, lt-ltb, le-ltb}
use Rattle.gfs2_layout.specs.Device.{superblock_place}
use Rattle.gfs2_layout.specs.Inode.{IsInode}
use Rattle.image_model.specs.Image.{Image}
use Rattle.image_model.specs.Journals.{IsJournal, journal_name}
use Rattle.image_model.specs.Owners.{Owners, is_dinode, holding}
use Rattle.image_model.specs.Stands.{IsJournalAt, IsLaid, Layout}
use Rattle.image_model.proofs.Lengths.{place_is, places_same, size_large}
use Rattle.image_changes.proofs.Laid.{journal_owner, row_dinode}
use Rattle.image_changes.specs.Instances.{StandsBy}
use Rattle.image_machine.specs.Volumes.{HasItsPlaces, Volume, fitted, image_with, volume_of}
use Rattle.image_machine.specs.Laws.{ContentsAreImages, HasBlocksFor, ImagesStand}

pub fitted_long : (n : ℕ) (bytes : List ℕ) → length (fitted n bytes) ≡ n
unfolding fitted
fitted_long zero bytes = refl
fitted_long (suc n) [] = ap suc (fitted_long n [])
fitted_long (suc n) (byte ∷ bytes) = ap suc (fitted_long n bytes)

pub fitted_whole : (n : ℕ) (bytes : List ℕ) → length bytes ≡ n → fitted n bytes ≡ bytes
unfolding fitted
fitted_whole zero [] e = refl
fitted_whole zero (byte ∷ bytes) e = absurd (omega (arith, e))
fitted_whole (suc n) [] e = absurd (omega (arith, e))
fitted_whole (suc n) (byte ∷ bytes) e = ap (λ bs. byte ∷ bs) (fitted_whole n bytes (omega (arith, e)))

-- a block of the device
pub inside : (v : Volume) (contents : ℕ → List ℕ) (b : ℕ) → b < v.count → (image_with v contents).at b ≡ fitted v.size (contents b)
inside v contents b low = cond-true (nat_lt b v.count) (fitted v.size (contents b)) (contents b) (lt-ltb b v.count low)

-- each of its blocks is whole
pub all_whole : (v : Volume) (contents : ℕ → List ℕ) (b : ℕ) → b < v.count → length ((image_with v contents).at b) ≡ v.size
all_whole v contents b low = ap length (inside v contents b low) ∙ fitted_long v.size (contents b)

-- equal contents are equal blocks
pub block_with : (v : Volume) (c c' : ℕ → List ℕ) (b : ℕ) → c b ≡ c' b → (image_with v c').at b ≡ (image_with v c).at b
block_with v c c' b e = ap (λ x. if nat_lt b v.count then fitted v.size x else x) (sym e)

-- contents that are whole where they are the device's are the blocks
pub as_told : (v : Volume) (c : ℕ → List ℕ) (b : ℕ) (bytes : List ℕ) → c b ≡ bytes → length bytes ≡ v.size → (image_with v c).at b ≡ bytes
as_told v c b bytes e long = elim (cases_lt b v.count) [
  | inl low ↦ inside v c b low ∙ ap (fitted v.size) e ∙ fitted_whole v.size bytes long
  | inr high ↦ cond-false (nat_lt b v.count) (fitted v.size (c b)) (c b) (le-ltb b v.count high) ∙ e
]

pub image_is : (v : Volume) (im : Image) → HasBlocksFor v im → image_with v im.at ≡ im
image_is v im has = λ i. record { size = sym has.size i; count = sym has.count i; at = λ b. each b i }
  where
    each : (b : ℕ) → (image_with v im.at).at b ≡ im.at b
    each b = elim (cases_lt b v.count) [
      | inl low ↦ inside v im.at b low ∙ fitted_whole v.size (im.at b) (has.whole b (subst (λ n. b < n) (sym has.count) low) ∙ has.size)
      | inr high ↦ cond-false (nat_lt b v.count) (fitted v.size (im.at b)) (im.at b) (le-ltb b v.count high)
    ]

-- ---- a journal of an image that stands

module _ (im : Image) (o : Owners) (l : Layout) (laid : IsLaid im o l) (j d : ℕ) (at : IsJournalAt l j d) where
  pub large : 512 ≤ im.size
  large = size_large im.size laid.image.block_size

  pub its_journal : IsJournal (holding im o d)
  its_journal = laid.system.rings j d (laid.system.journals j d at)

  pub its_dinode : is_dinode (o d) ≡ true
  its_dinode = row_dinode (o d) l.jindex (journal_name j) (journal_owner im o l laid j d at)

  pub its_inode : IsInode (holding im o d)
  its_inode = laid.inodes d its_dinode

  -- it has its places where the volume has them
  pub its_places : HasItsPlaces (volume_of im l) d (holding im o d)
  its_places = record {
    as_many = places_same im o large d its_dinode its_inode its_journal;
    there = λ p low. (place_is im o large d its_dinode its_inode its_journal p (subst (λ n. p < n) (sym (places_same im o large d its_dinode its_inode its_journal)) low)).0;
  }

pub images_stand : ImagesStand
images_stand im o l t s = record {
  owners = o;
  stands = subst (λ z. StandsBy z o l t) (sym same) s;
  told = λ b. refl;
  superblock = λ i. (same i).at (superblock_place im.size);
  rings = λ j d at. subst (λ z. HasItsPlaces (volume_of im l) d (holding z o d)) (sym same) (its_places im o l s.laid j d at);
}
  where
    same : image_with (volume_of im l) im.at ≡ im
    same = image_is (volume_of im l) im (record { size = refl; count = refl; whole = s.laid.image.whole })

pub contents_are_images : ContentsAreImages
contents_are_images v im places t has s = (s.owners, subst (λ z. StandsBy z s.owners v.layout t) (image_is v im has) s.stands)
