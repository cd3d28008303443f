use Rattle.messages.proofs.Members.{member-past, start-before, member-found}
use Rattle.messages.proofs.lists.member_at.Goals as goal

pub returns-then-value-from : goal.returns-then-value-from
returns-then-value-from c = search member-past

pub slice_bounds-trim_len-count : goal.slice_bounds-trim_len-count
slice_bounds-trim_len-count c = search start-before

pub slice_bounds-trim_len-start : goal.slice_bounds-trim_len-start
slice_bounds-trim_len-start c = search start-before

pub returns : goal.returns
returns c = search member-found
