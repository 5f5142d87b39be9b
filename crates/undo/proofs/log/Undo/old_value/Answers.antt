use Rattle.std.proofs.Common.{◌≡◌, ◌∙◌, rules, pos, slice_index_or, MatchOption, w32, SFits}
use Rattle.std.proofs.lemmas.Int.{to_z-of_z}
use Rattle.undo.specs.Works.{kept_of}
use Rattle.undo.proofs.log.Undo.old_value.Goals as goal

pub returns : goal.returns
returns c =
    let w = c.args.self.now.words in
    let f : SFits w32 c.map_or.result = search rules in
    let m : MatchOption c.pair_of.result (c.map_or.result ≡ slice_index_or w.cells c.args.i (pos 0)) (λ k. c.map_or.result ≡ slice_index_or w.olds k (pos 0)) = search rules in
    to_z-of_z w32 c.map_or.result f ∙ kept_of w c.args.self.now.fine c.args.i c.requires c.pair_of.result c.pair_of.ensures c.map_or.result m
