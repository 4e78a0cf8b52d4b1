use Rattle.house.proofs.Scanning.{parted, split_by}
use Rattle.house.proofs.words.split_first_word.Goals as goal

pub returns-clause-parts : goal.returns-clause-parts
returns-clause-parts c =
    let text = c.skip_spaces-text in
    let p = parted text.result.now c.split_at.result.0.now c.split_at.result.1.now c.size_before.result c.size_before.ensures.within c.size_before.ensures.front c.split_at.ensures.front c.split_at.ensures.back in
    split_by c.args.text.now text.result.now c.split_at.result.0.now c.split_at.result.1.now p text.ensures.same _ _ _ c.is_empty.result c.then_some.ensures c.is_empty.ensures text.ensures.word (λ e. e)
