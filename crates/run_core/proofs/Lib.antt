mod ClaimLaws
mod DrawLaws
mod PublishLaws
