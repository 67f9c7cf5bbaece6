-- How elements and attributes are spelled in a page.
use Rattle.std.specs.Prelude.{ℕ, List, codes}
use Rattle.page_markup.specs.declared.tag.Tag.{Tag}
use Rattle.page_markup.specs.declared.tag.VoidTag.{VoidTag}
use Rattle.page_markup.specs.declared.attribute.Attribute.{Attribute}
use Rattle.page_markup.specs.declared.tag.Tag.TheVariants as tag
use Rattle.page_markup.specs.declared.tag.VoidTag.TheVariants as void
use Rattle.page_markup.specs.declared.attribute.Attribute.TheVariants as attribute

-- an element that may hold others
unfoldable pub tag_name : Tag → List ℕ
tag_name tag.Head = codes "head"
tag_name tag.Title = codes "title"
tag_name tag.Body = codes "body"
tag_name tag.Header = codes "header"
tag_name tag.Main = codes "main"
tag_name tag.Section = codes "section"
tag_name tag.Heading1 = codes "h1"
tag_name tag.Heading2 = codes "h2"
tag_name tag.Heading3 = codes "h3"
tag_name tag.Paragraph = codes "p"
tag_name tag.Table = codes "table"
tag_name tag.Caption = codes "caption"
tag_name tag.TableHead = codes "thead"
tag_name tag.TableBody = codes "tbody"
tag_name tag.Row = codes "tr"
tag_name tag.HeaderCell = codes "th"
tag_name tag.Cell = codes "td"
tag_name tag.Figure = codes "figure"
tag_name tag.FigureCaption = codes "figcaption"
tag_name tag.Drawing = codes "svg"
tag_name tag.Group = codes "g"
tag_name tag.Label = codes "text"
tag_name tag.Description = codes "desc"
tag_name tag.Span = codes "span"
tag_name tag.Small = codes "small"
tag_name tag.Division = codes "div"

-- an element that holds nothing
unfoldable pub void_name : VoidTag → List ℕ
void_name void.Meta = codes "meta"
void_name void.Rectangle = codes "rect"
void_name void.Line = codes "line"
void_name void.Path = codes "path"

-- an attribute
unfoldable pub attribute_name : Attribute → List ℕ
attribute_name attribute.Language = codes "lang"
attribute_name attribute.Charset = codes "charset"
attribute_name attribute.Name = codes "name"
attribute_name attribute.Content = codes "content"
attribute_name attribute.Class = codes "class"
attribute_name attribute.Identifier = codes "id"
attribute_name attribute.Scope = codes "scope"
attribute_name attribute.ColumnSpan = codes "colspan"
attribute_name attribute.Role = codes "role"
attribute_name attribute.LabelledBy = codes "aria-labelledby"
attribute_name attribute.ViewBox = codes "viewBox"
attribute_name attribute.Width = codes "width"
attribute_name attribute.Height = codes "height"
attribute_name attribute.X = codes "x"
attribute_name attribute.Y = codes "y"
attribute_name attribute.X1 = codes "x1"
attribute_name attribute.Y1 = codes "y1"
attribute_name attribute.X2 = codes "x2"
attribute_name attribute.Y2 = codes "y2"
attribute_name attribute.Outline = codes "d"
attribute_name attribute.TextAnchor = codes "text-anchor"
