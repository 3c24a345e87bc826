use Rattle.std.proofs.Common.{◌<◌, ◌%◌, ◌^◌, ◌*◌, mod-lt, pow_pos, ℕ, arith}
use Rattle.bihash_words.specs.Sizes.{sizes_of}
use Rattle.bihash_table.proofs.OpenPlaces.{few_pages}
use Rattle.bihash_table.proofs.hashed_key.HashedKey.page.Goals as goal

pub returns-clause-inside : goal.returns-clause-inside
returns-clause-inside g c =
    let few = few_pages (sizes_of g.S.Shape) c.args.log2 c.requires.sound c.requires.small in
    let some_page = pow_pos c.args.log2 in
    let pages : ℕ = 1 * 2 ^ c.args.log2 % 18446744073709551616 in
    let is : 0 < pages = omega arith in
    let low : c.args.self.now.page_bits % pages < pages = mod-lt c.args.self.now.page_bits is in omega arith
