use Rattle.std.proofs.Common.{length, ap, arith}
use Rattle.std.proofs.lemmas.Slice.Zip.{length-zip}
use Rattle.tables.specs.House.{house_strings}
use Rattle.tables.proofs.house_codes.HouseCodesListing.count.Goals as goal

pub returns : goal.returns
returns c = omega (arith, length-zip c.args.self.now.codes.items house_strings, c.as_slice.ensures.few, ap length c.as_slice.ensures.value)
