use Rattle.std.proofs.Common.{◌≡◌, ◌<◌, ◌≤◌, ◌^◌, ap, subst, ◌∙◌, arith}
use Rattle.crc_words.specs.Remainder.{crc32_of}
use Rattle.gfs2_layout.specs.Inode.{depth_in, entry, table_count, top_bits}
use Rattle.hash_dirs.specs.Shown.{index_for}
use Rattle.hash_dirs.proofs.Chained.{deep, index_low}
use Rattle.image_journals.proofs.Names.{by_chain}
use Rattle.image_journals.proofs.Read.{handed, so_found}
use Rattle.image_journals.proofs.directories.find_hashed.Goals as goal

pub returns-then-depth-gt15 : goal.returns-then-depth-gt15
returns-then-depth-gt15 c h is own hashed depth = let low : depth_in h ≤ 15 = deep h is.sound hashed in let high = c.if-depth-gt15.true in omega (arith, high, depth, low)

pub returns-in_err-first : goal.returns-in_err-first
returns-in_err-first c h is own hashed depth =
    let index : c.index_of.result ≡ index_for h c.args.name.now = c.index_of.ensures.value ∙ ap (λ n. top_bits n c.crc32.result) depth ∙ ap (top_bits (depth_in h)) c.crc32.ensures in
    let low : c.index_of.result < table_count h = subst (λ n. c.index_of.result < 2 ^ n) depth c.index_of.ensures.low in
    handed c.from_residual.result _ _ _ c.from_residual.ensures.1 (c.in_err-first.ensures h is own hashed low)

pub returns : goal.returns
returns c h is own hashed depth =
    let index : c.index_of.result ≡ index_for h c.args.name.now = c.index_of.ensures.value ∙ ap (λ n. top_bits n c.crc32.result) depth ∙ ap (top_bits (depth_in h)) c.crc32.ensures in
    let low : c.index_of.result < table_count h = subst (λ n. c.index_of.result < 2 ^ n) depth c.index_of.ensures.low in
    let first : c.in_ok-first.first ≡ entry h (index_for h c.args.name.now) = c.in_ok-first.ensures h is own hashed low ∙ ap (entry h) index in
    let small : crc32_of c.args.name.now < 2 ^ 32 = omega (arith, c.crc32.ensures, c.crc32.type_inv) in
    so_found c.find_along.result _ _ (λ found by. by_chain h c.args.name.now found c.chains_tell_names.ensures is.sound hashed small by)
    (c.find_along.ensures h (index_for h c.args.name.now) is hashed (index_low h is.sound hashed c.args.name.now small) first)
