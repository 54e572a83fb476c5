use Rattle.std.proofs.Common.{ℕ, ◌≡◌, ◌++◌, ◌-◌, ◌^◌, List, [], length, replicate, false, arith, ap}
use Rattle.std.proofs.Common.{◌∙◌, append-nil}
use Rattle.std.specs.Fmt.{char_count, digits, format_spec, padded_integral}
use Rattle.base.proofs.addresses.push_hexadecimal.Goals as goal

-- a width of eight under `0` puts zeros in front
zeros_in_front : (ds : List ℕ) → padded_integral (format_spec 32 0 4 8 (2 ^ 64 - 1)) false [] ds
    ≡ replicate (8 - length ds) 48 ++ ds
unfolding padded_integral char_count
zeros_in_front ds =
    let fewer : 8 - length ds - 0 - 0 ≡ 8 - length ds = omega arith in
    ap (λ k. replicate k 48 ++ (ds ++ [])) fewer ∙ ap (λ l. replicate (8 - length ds) 48 ++ l)
    (append-nil ds)

pub returns : goal.returns
returns c = rw (← zeros_in_front (digits 16 false c.args.n))
    (rw (c.laid_out.ensures, c.in_radix.ensures) at c.write.ensures.bytes)
