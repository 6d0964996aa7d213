use Rattle.std.proofs.Common.{ap, ◌∙◌}
use Rattle.page_layers.specs.declared.command.Command.{Command}
use Rattle.model_history.specs.Ranges.{command_in_range}
use Rattle.cc_live.proofs.command_numbers.are_in_range.Goals as goal

pub returns-in-AddTransform : goal.returns-in-AddTransform
returns-in-AddTransform c = ap (λ (x : Command). command_in_range 2 x) c.in-AddTransform.is ∙ c.add_transform.ensures

pub returns-in-SetTransform : goal.returns-in-SetTransform
returns-in-SetTransform c = ap (λ (x : Command). command_in_range 2 x) c.in-SetTransform.is ∙ c.set_transform.ensures

pub returns-in-AddClip : goal.returns-in-AddClip
returns-in-AddClip c = ap (λ (x : Command). command_in_range 2 x) c.in-AddClip.is ∙ c.add_clip.ensures

pub returns-in-SetClip : goal.returns-in-SetClip
returns-in-SetClip c = ap (λ (x : Command). command_in_range 2 x) c.in-SetClip.is ∙ c.set_clip.ensures

pub returns-in-AddEffect : goal.returns-in-AddEffect
returns-in-AddEffect c = ap (λ (x : Command). command_in_range 2 x) c.in-AddEffect.is ∙ c.add_effect.ensures

pub returns-in-SetOpacity : goal.returns-in-SetOpacity
returns-in-SetOpacity c = ap (λ (x : Command). command_in_range 2 x) c.in-SetOpacity.is ∙ c.set_opacity.ensures

pub returns-in-AddScroller : goal.returns-in-AddScroller
returns-in-AddScroller c = ap (λ (x : Command). command_in_range 2 x) c.in-AddScroller.is ∙ c.add_scroller.ensures

pub returns-in-SetRange : goal.returns-in-SetRange
returns-in-SetRange c = ap (λ (x : Command). command_in_range 2 x) c.in-SetRange.is ∙ c.set_range.ensures

pub returns-in-ScrollBy : goal.returns-in-ScrollBy
returns-in-ScrollBy c = ap (λ (x : Command). command_in_range 2 x) c.in-ScrollBy.is ∙ c.scroll_by.ensures

pub returns-in-ScrollTo : goal.returns-in-ScrollTo
returns-in-ScrollTo c = ap (λ (x : Command). command_in_range 2 x) c.in-ScrollTo.is ∙ c.scroll_to.ensures

pub returns-in-AddLayer : goal.returns-in-AddLayer
returns-in-AddLayer c = ap (λ (x : Command). command_in_range 2 x) c.in-AddLayer.is ∙ c.add_layer.ensures

pub returns-in-RemoveLayer : goal.returns-in-RemoveLayer
returns-in-RemoveLayer c = ap (λ (x : Command). command_in_range 2 x) c.in-RemoveLayer.is ∙ c.remove_layer.ensures

pub returns-in-ResizeLayer : goal.returns-in-ResizeLayer
returns-in-ResizeLayer c = ap (λ (x : Command). command_in_range 2 x) c.in-ResizeLayer.is ∙ c.resize_layer.ensures

pub returns-in-SetColour : goal.returns-in-SetColour
returns-in-SetColour c = ap (λ (x : Command). command_in_range 2 x) c.in-SetColour.is ∙ c.set_colour.ensures

pub returns-in-InsertItem : goal.returns-in-InsertItem
returns-in-InsertItem c = ap (λ (x : Command). command_in_range 2 x) c.in-InsertItem.is ∙ c.insert_item.ensures

pub returns-in-RemoveItem : goal.returns-in-RemoveItem
returns-in-RemoveItem c = ap (λ (x : Command). command_in_range 2 x) c.in-RemoveItem.is ∙ c.remove_item.ensures

pub returns-in-ReplaceItem : goal.returns-in-ReplaceItem
returns-in-ReplaceItem c = ap (λ (x : Command). command_in_range 2 x) c.in-ReplaceItem.is ∙ c.replace_item.ensures

pub returns-in-MoveLayer : goal.returns-in-MoveLayer
returns-in-MoveLayer c = ap (λ (x : Command). command_in_range 2 x) c.in-MoveLayer.is ∙ c.move_layer.ensures

pub returns-in-SetView : goal.returns-in-SetView
returns-in-SetView c = ap (λ (x : Command). command_in_range 2 x) c.in-SetView.is ∙ c.set_view.ensures
