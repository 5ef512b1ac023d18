use Rattle.std.proofs.Common.{◌≡◌, refl, ap, ◌∙◌, ◌&&◌, ◌||◌, true, Some, if◌then◌else◌, ◌==◌, nat_eq, eq-eqb}
use Rattle.number_groups.specs.Groups.{is_member}
use Rattle.due_lists.specs.ByLink.{copy_at}
use Rattle.due_lists.specs.UnsentNumbers.{copy_on}
use Rattle.due_lists.proofs.unsent_numbers.UnsentNumbers.add.Goals as goal

pub returns-clause-added : goal.returns-clause-added
returns-clause-added c =
    let link = c.args.link.now.number in
    let session = c.args.link.now.session.number in
    let completion = c.args.completion in
    let own : (link == link && (completion == completion)) ≡ true = ap (λ b. b && (completion == completion)) (eq-eqb link link refl) ∙ eq-eqb completion completion refl in
    let listed : copy_on c.touch_link.new.self link completion ≡ Some c.args.number =
    c.in_ok-touch_link.ensures.kept.listed link completion
    ∙ (c.in_ok-insert.ensures link completion ∙ ap (λ b. if b then Some c.args.number else copy_at c.args.self.now.copies link completion) own) in
    let both : (nat_eq session session && (link == link)) ≡ true = ap (λ b. b && (link == link)) (eq-eqb session session refl) ∙ eq-eqb link link refl in
    record {
      listed = listed;
      stands = c.in_ok-touch_link.ensures.kept.stood session link
          ∙ (c.in_ok-insert-2.ensures.joined session link ∙ ap (λ b. b || is_member nat_eq c.args.self.now.of_session session link) both);
      waits = c.in_ok-touch_link.ensures.touched completion c.args.number listed;
    }
