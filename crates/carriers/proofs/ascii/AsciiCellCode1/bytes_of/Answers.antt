use Rattle.std.proofs.Common.{[], ◌∷◌, sym, ap, ◌∙◌}
use Rattle.std.specs.Option.{option_map}
use Rattle.carriers.specs.AsciiLaws.{bytes_as_byte}
use Rattle.carriers.proofs.ascii.AsciiCellCode1.bytes_of.Goals as goal

pub returns-in_err-byte_of : goal.returns-in_err-byte_of
returns-in_err-byte_of c = c.from_residual.ensures ∙ ap (option_map (λ byte. byte ∷ [])) c.in_err-byte_of.ensures ∙ sym (bytes_as_byte c.args.cell)

pub returns : goal.returns
returns c = ap (option_map (λ byte. byte ∷ [])) c.in_ok-byte_of.ensures ∙ sym (bytes_as_byte c.args.cell)
