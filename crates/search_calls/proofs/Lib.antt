mod ValueLaws
