use Rattle.std.proofs.Common.{◌≡◌, ℕ, ◌<◌, List, [], ◌∷◌, ◌++◌, map, IfOk, string_bytes, refl, ◌∙◌, rules, arith}
use Rattle.std.specs.Prelude.{encode_utf8_all}
use Rattle.std.proofs.lemmas.Str.{encode_ascii}
use Rattle.std.proofs.lemmas.Result.{IfOk-weaker}
use Rattle.report.specs.declared.excerpt.How.{How}
use Rattle.report.specs.Seen.{seen}
use Rattle.report.proofs.excerpt.excerpt.Goals as goal

seen_ascii : (how : How) (b : ℕ) → seen how b < 128
seen_ascii how b = grind arith

-- each byte that is seen is a character of one byte
all_ascii : (how : How) (bs : List ℕ) → encode_utf8_all (map (seen how) bs) ≡ map (seen how) bs
all_ascii how [] = refl
all_ascii how (b ∷ bs) = λ i. encode_ascii (seen how b) (seen_ascii how b) i ++ all_ascii how bs i

pub returns : goal.returns
returns c =
    let bytes = c.args.bytes.now in
    let how = c.args.how in
    let e : IfOk c.collect.result (λ s. string_bytes s ≡ encode_utf8_all (map (seen how) bytes)) = search rules in
    IfOk-weaker c.collect.result _ _ (λ s p. p ∙ all_ascii how bytes) e
