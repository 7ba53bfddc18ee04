use Rattle.std.proofs.Common.{arith, inl, inr}
use Rattle.std.proofs.lemmas.Bool.{cases_lt}
use Rattle.request_list.proofs.RemainingRequestsStep.{file_count, relation_at}
use Rattle.request_list.proofs.cutter.ResolvedCommand.range_of.Goals as goal

pub bounds-files-file : goal.bounds-files-file
bounds-files-file c = omega (
  arith,
  file_count c.args.self.now _ c.files.ensures.files,
  c.requires.file,
)

pub bounds-self-relation : goal.bounds-self-relation
bounds-self-relation c =
    let at = relation_at c.args.self.now c.args.file _ _ _ c.requires.asked c.requires.file
    c.files.ensures.files c.number_of-relation.ensures in
    omega (arith, at.1, c.requires.asked.lengths_are)

pub returns-clause-range : goal.returns-clause-range
returns-clause-range c =
    let at = relation_at c.args.self.now c.args.file _ _ _ c.requires.asked c.requires.file
    c.files.ensures.files c.number_of-relation.ensures in
    let number = at.0 in cc

pub returns-clause-within : goal.returns-clause-within
returns-clause-within c =
    let at = relation_at c.args.self.now c.args.file _ _ _ c.requires.asked c.requires.file
    c.files.ensures.files c.number_of-relation.ensures in
    let end = c.asked_count.ensures.end (c.requires.asked.fit c.number_of-relation.result) in
    record {
      relation_in = λ _. at.1;
      within = elim (cases_lt 0 c.asked_count.result) [
        | inl some ↦ (let last = end some in omega (arith, c.first_block.ensures.block))
        | inr none ↦ omega (arith, c.first_block.ensures.below)
      ];
    }
